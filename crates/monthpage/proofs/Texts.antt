-- Lines put one behind another.
use Rattle.std.proofs.Common.{◌≡◌, ℕ, ◌+◌, ◌<◌, List, [], ◌∷◌, ◌++◌, length, take, get_or, append_assoc, append-nil, length-take-le, arith}
use Rattle.std.proofs.Common.{ap, sym, ◌∙◌}
use Rattle.std.proofs.lemmas.List.{take_more}
use Rattle.std.proofs.lemmas.List.Concat.{flat_map-append}
use Rattle.monthpage.specs.Lines.{Line, line, text, each_from}

pub text-append : (xs ys : List Line) → text (xs ++ ys) ≡ text xs ++ text ys
unfolding text
text-append xs ys = flat_map-append line xs ys

pub text-one : (x : Line) → text (x ∷ []) ≡ line x
unfolding text
text-one x = append-nil (line x)

-- a page that has no lines yet
pub none : (old : List ℕ) → old ≡ old ++ text []
unfolding text
none old = sym (append-nil old)

-- lines behind others
pub puts : (old : List ℕ) {page new : List ℕ} (xs ys : List Line) → page ≡ old ++ text xs → new ≡ page ++ text ys → new ≡ old ++ text (xs ++ ys)
puts old xs ys so_far put =
    put ∙ ap (λ t. t ++ text ys) so_far ∙ append_assoc old (text xs) (text ys) ∙ ap (λ t. old ++ t) (sym (text-append xs ys))

-- one more
pub more : (old : List ℕ) {page new : List ℕ} (xs : List Line) (x : Line) → page ≡ old ++ text xs → new ≡ page ++ line x
    → new ≡ old ++ text (xs ++ x ∷ [])
more old {page} xs x so_far put = puts old xs (x ∷ []) so_far (put ∙ ap (λ t. page ++ t) (sym (text-one x)))

-- one more that is numbered
each_push : {X : Type 0} (n j : ℕ) (tell : ℕ → X → Line) (xs : List X) (x : X) → j ≡ n + length xs
    → each_from n tell (xs ++ x ∷ []) ≡ each_from n tell xs ++ tell j x ∷ []
each_push n j tell [] x e = ap (λ k. tell k x ∷ []) (let same : n ≡ j = omega arith in same)
each_push n j tell (y ∷ ys) x e = ap (λ t. tell n y ∷ t) (each_push (n + 1) j tell ys x (omega arith))

-- a loop that puts one for each, numbered
pub each_more : {X : Type 0} (n j i : ℕ) (tell : ℕ → X → Line) (xs ys : List X) (d : X) (old page new : List ℕ) → ys ≡ xs
    → page ≡ old ++ text (each_from n tell (take i xs)) → i < length ys → j ≡ n + i → new ≡ page ++ line (tell j (get_or ys i d))
    → new ≡ old ++ text (each_from n tell (take (i + 1) xs))
each_more n j i tell xs ys d old page new same so_far within count put =
    let within_xs : i < length xs = rw same at within in
    let put_xs : new ≡ page ++ line (tell j (get_or xs i d)) = rw same at put in
    let pushed = each_push n j tell (take i xs) (get_or xs i d) (omega (arith, length-take-le i xs)) in
    rw (take_more xs i d within_xs, pushed) (more old _ (tell j (get_or xs i d)) so_far put_xs)
