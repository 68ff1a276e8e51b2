-- The entries of the arrays are all that is told: by its length an array has nothing more.
use Rattle.std.proofs.Common.{ℕ, zero, suc, ◌≤◌, ◌≡◌, refl, ap, ◌∙◌, List, [], ◌∷◌, ◌++◌, map, arith, length, get_or}
use Rattle.std.proofs.lemmas.List.{length-map}
use Rattle.cdf_unit_list.specs.declared.Unit.{Unit}
use Rattle.cdf_explain_spec.specs.Why.{Why}
use Rattle.cdf_unit_table.specs.Entries.{padded}
use Rattle.cdf_unit_table.proofs.Entries.{padded_few}
use Rattle.cdf_explain.specs.Numbers.{ExplainedNumbers, explained_by}
use Rattle.cdf_explain.specs.declared.OpenUnit.{OpenUnit}
use Rattle.cdf_explain_c.specs.Answer.{pairs, answer_of}

-- So many entries of one array, and of two in turn.
abbrev pub entries : ℕ → (ℕ → ℕ) → List ℕ
entries zero at = []
entries (suc n) at = at 0 ∷ entries n (λ i. at (suc i))

abbrev pub in_turn : ℕ → (ℕ → ℕ) → (ℕ → ℕ) → List ℕ
in_turn zero one other = []
in_turn (suc n) one other = one 0 ∷ other 0 ∷ in_turn n (λ i. one (suc i)) (λ i. other (suc i))

-- A field of the units one by one, and of all.
at_each : (f : OpenUnit → ℕ) (us : List OpenUnit) (i : ℕ) (z : OpenUnit) → f z ≡ 0 → f (get_or us i z) ≡ get_or (map f us) i 0
at_each f [] i z e = e
at_each f (u ∷ us) zero z e = refl
at_each f (u ∷ us) (suc i) z e = at_each f us i z e

turn_same : (n : ℕ) (f g f₁ g₁ : ℕ → ℕ) → ((i : ℕ) → f i ≡ f₁ i) → ((i : ℕ) → g i ≡ g₁ i) → in_turn n f g ≡ in_turn n f₁ g₁
turn_same zero f g f₁ g₁ p q = refl
turn_same (suc n) f g f₁ g₁ p q =
    rw (p 0, q 0, turn_same n (λ i. f (suc i)) (λ i. g (suc i)) (λ i. f₁ (suc i)) (λ i. g₁ (suc i)) (λ i. p (suc i)) (λ i. q (suc i)))

-- What is written of the units, each with its id and its start.
pub units_written : (us : List OpenUnit) → let none : OpenUnit = record { id = 0; start = 0 } in
    in_turn 4 (λ i. (get_or us i none).id) (λ i. (get_or us i none).start)
    ≡ in_turn 4 (λ i. get_or (map (λ (u : OpenUnit). u.id) us) i 0) (λ i. get_or (map (λ (u : OpenUnit). u.start) us) i 0)
units_written us =
    let none : OpenUnit = record { id = 0; start = 0 } in
    turn_same 4 (λ i. (get_or us i none).id) (λ i. (get_or us i none).start)
    (λ i. get_or (map (λ (u : OpenUnit). u.id) us) i 0) (λ i. get_or (map (λ (u : OpenUnit). u.start) us) i 0)
    (λ i. at_each (λ u. u.id) us i none refl) (λ i. at_each (λ u. u.start) us i none refl)

-- What is written of the answer of `explain`.
abbrev pub written : ExplainedNumbers → List ℕ
written e =
    e.offset
    ∷ e.depth
    ∷ (in_turn 4 (λ i. get_or e.units i 0) (λ i. get_or e.starts i 0) ++ (e.choices ∷ entries 14 (λ i. get_or e.ids i 0)))

all_entries : (xs : List ℕ) → entries (length xs) (λ i. get_or xs i 0) ≡ xs
all_entries [] = refl
all_entries (x ∷ xs) = ap (λ ys. x ∷ ys) (all_entries xs)

all_pairs : (us : List Unit) → length us ≤ 4 →
    in_turn 4 (λ i. get_or (padded 4 (map (λ (u : Unit). u.id) us)) i 0) (λ i. get_or (padded 4 (map (λ (u : Unit). u.start) us)) i 0)
    ≡ padded 8 (pairs us)
all_pairs [] h = refl
all_pairs (a ∷ []) h = refl
all_pairs (a ∷ b ∷ []) h = refl
all_pairs (a ∷ b ∷ c ∷ []) h = refl
all_pairs (a ∷ b ∷ c ∷ d ∷ []) h = refl
all_pairs (a ∷ b ∷ c ∷ d ∷ e ∷ us) h = absurd (omega arith)

pub written_is : (w : Why) (e : ExplainedNumbers) → e ≡ explained_by w → length e.units ≡ 4 → length e.ids ≡ 14 → written e ≡ answer_of w
unfolding explained_by answer_of
written_is w e is four fourteen =
    let us = w.units in
    let ids = padded 14 w.ids in
    let few : length us ≤ 4 = rw length-map at (padded_few 4 (map (λ (u : Unit). u.id) us) (rw is at four)) in
    let all : entries 14 (λ i. get_or ids i 0) ≡ ids = rw (rw is at fourteen) at (all_entries ids) in
    ap written is
    ∙ ap (λ ps. w.offset ∷ length us ∷ (ps ++ (length w.ids ∷ entries 14 (λ i. get_or ids i 0)))) (all_pairs us few)
    ∙ ap (λ xs. w.offset ∷ length us ∷ (padded 8 (pairs us) ++ (length w.ids ∷ xs))) all
