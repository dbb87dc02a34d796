-- The standing that months leave is correcting exactly where a correction is due.
use Rattle.std.proofs.Common.{◌≡◌, ◌↔◌, ◌*◌, ◌≤◌, ◌<◌, ◌⊎◌, inl, inr, nat_abs, List, [], ◌∷◌, ◌++◌, fold, refl, ap, sym, ◌∙◌, arith}
use Rattle.std.proofs.lemmas.Bool.{cases_lt}
use Rattle.std.proofs.lemmas.Bool.Decides.{nat_tests}
use Rattle.std.proofs.lemmas.List.Elements.{All-nil, All-cons, All-head, All-tail}
use Rattle.std.specs.List.{All}
use Rattle.settlement.specs.Settling.{standing_after}
use Rattle.settlement.specs.declared.record.Closing.{Closing}
use Rattle.settlement.specs.declared.standing.Standing.{Standing}
use Rattle.settlement.specs.declared.standing.Standing.TheVariants.{Steady, Correcting}
use Rattle.book.specs.Facts.{ClosedBeyond, ClosedWithin, CorrectionDue}
use Rattle.book.specs.Reconciled.{standing_left}

-- beyond and within exclude each other
module _ (standing : Standing) (c : Closing) where
  beyond_corrects : ClosedBeyond c → standing_after standing c ≡ Correcting
  beyond_corrects beyond = grind (arith, nat_tests)

  within_steadies : ClosedWithin c → standing_after standing c ≡ Steady
  within_steadies within = grind (arith, nat_tests)

  between_keeps : 10 * nat_abs c.total ≤ c.revenue → 3 * c.revenue < 100 * nat_abs c.total → standing_after standing c ≡ standing
  between_keeps low high = grind (arith, nat_tests)

abbrev leaves : Standing → List Closing → Standing
leaves standing closings = fold standing_after standing closings

abbrev NoneWithin : List Closing → Type 0
NoneWithin closings = All (λ c. ClosedWithin c → ⊥) closings

-- one month more in front
due_later : (c : Closing) (cs : List Closing) → CorrectionDue cs → CorrectionDue (c ∷ cs)
due_later c cs due = record {
  before = c ∷ due.before;
  month = due.month;
  later = due.later;
  split = ap (λ l. c ∷ l) due.split;
  beyond = due.beyond;
  none_within = due.none_within;
}

-- months that leave a correction: it is due, or stood before and none ended it
due_or_stood : (standing : Standing) (cs : List Closing) → leaves standing cs ≡ Correcting
    → CorrectionDue cs ⊎ ((standing ≡ Correcting) × NoneWithin cs)
due_or_stood standing [] left = inr (left, All-nil (λ c. ClosedWithin c → ⊥))
due_or_stood standing (c ∷ cs) left = elim (due_or_stood (standing_after standing c) cs left) [
  | inl due ↦ inl (due_later c cs due)
  | inr stood ↦ elim (cases_lt c.revenue (10 * nat_abs c.total)) [
    | inl beyond ↦ inl (record { before = []; month = c; later = cs; split = refl; beyond = beyond; none_within = stood.1 })
    | inr low ↦ elim (cases_lt (3 * c.revenue) (100 * nat_abs c.total)) [
      | inl high ↦ inr (sym (between_keeps standing c low high) ∙ stood.0, All-cons (λ c. ClosedWithin c → ⊥) c cs (λ within. omega arith) stood.1)
      | inr within ↦ absurd (let ended = within_steadies standing c within in let corrects = stood.0 in cc)
    ]
  ]
]

-- a correction stands while no month closes within
stands : (standing : Standing) (cs : List Closing) → standing ≡ Correcting → NoneWithin cs → leaves standing cs ≡ Correcting
stands standing [] corrects none = corrects
stands standing (c ∷ cs) corrects none =
    let first = All-head (λ c. ClosedWithin c → ⊥) c cs none in
    let rest = All-tail (λ c. ClosedWithin c → ⊥) c cs none in
    elim (cases_lt c.revenue (10 * nat_abs c.total)) [
      | inl beyond ↦ stands (standing_after standing c) cs (beyond_corrects standing c beyond) rest
      | inr low ↦ elim (cases_lt (3 * c.revenue) (100 * nat_abs c.total)) [
        | inl high ↦ stands (standing_after standing c) cs (between_keeps standing c low high ∙ corrects) rest
        | inr within ↦ absurd (first within)
      ]
    ]

begins : (standing : Standing) (before : List Closing) (c : Closing) (later : List Closing) → ClosedBeyond c → NoneWithin later
    → leaves standing (before ++ c ∷ later) ≡ Correcting
begins standing [] c later beyond none = stands (standing_after standing c) later (beyond_corrects standing c beyond) none
begins standing (b ∷ before) c later beyond none = begins (standing_after standing b) before c later beyond none

steady_due : (closings : List Closing) → CorrectionDue closings ⊎ ((Steady ≡ Correcting) × NoneWithin closings) → CorrectionDue closings
steady_due closings (inl due) = due
steady_due closings (inr stood) = absurd (let never = stood.0 in cc)

pub left_correcting : (closings : List Closing) → (standing_left closings ≡ Correcting) ↔ CorrectionDue closings
left_correcting closings = (
  λ left. steady_due closings (due_or_stood Steady closings left),
  λ due. ap standing_left due.split ∙ begins Steady due.before due.month due.later due.beyond due.none_within,
)
