-- What a client is told when its turn comes.
use Rattle.std.specs.Prelude.{Option}
use Rattle.book.specs.Account.{Account}
use Rattle.client.specs.declared.outcome.Outcome.{Outcome}

pub record Told : Type 0 where
  -- what the call before came to
  pub outcome : Outcome
  -- what the book holds, which the client may read: it is what that call left
  pub account : Option Account

abbrev pub telling : Outcome → Option Account → Told
telling outcome account = record { outcome = outcome; account = account }
