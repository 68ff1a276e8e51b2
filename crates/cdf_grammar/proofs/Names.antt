-- Names: what `name_of` takes from the front of bytes is exactly a name.
use Rattle.std.proofs.Common.{ℕ, suc, ◌+◌, ◌≤◌, ◌≡◌, refl, sym, ap, Bool, true, false, ◌&&◌, cond, ◌||◌, List, [], ◌∷◌, ◌++◌, ◌↔◌, ⊎_elim, inl, inr}
use Rattle.std.proofs.Common.{◌⊎◌, arith, le-leb, leb-true, eq-eqb, eqb-true, leb, eqb, length, take, get_or, length-append, take_at, length-take-le}
use Rattle.std.proofs.lemmas.Bool.{false≢true}
use mathlib.Core.Bool.{or-true}
use mathlib.Core.List.{nil≢cons}
use Rattle.cdf_unit_data.specs.Data.{letter, name_byte, name_run, name_front, spelled, name_of, front_by, name_by, run_by, Own}
use Rattle.std.specs.Prelude.{Ok, Err}
use Rattle.cdf_unit_table.proofs.Bools.{both, either, clash}
use Rattle.cdf_grammar.specs.Published.{Each, Letter, NameByte, Name}

letter_is : (b : ℕ) → (letter b ≡ true) ↔ Letter b
letter_is b = (
  λ e. let w = both (leb 65 b) (leb b 90) e in (leb-true 65 b w.0, leb-true b 90 w.1),
  λ p. rw (le-leb 65 b p.0, le-leb b 90 p.1),
)

digit_is : (b : ℕ) → ((leb 48 b && leb b 57 || eqb b 95) ≡ true) ↔ (((48 ≤ b) × (b ≤ 57)) ⊎ (b ≡ 95))
digit_is b = (
  λ e. ⊎_elim
      (λ d. let w = both (leb 48 b) (leb b 57) d in inl (leb-true 48 b w.0, leb-true b 57 w.1))
      (λ u. inr (eqb-true b 95 u)) (either (leb 48 b && leb b 57) (eqb b 95) e),
  λ p. ⊎_elim (λ d. rw (le-leb 48 b d.0, le-leb b 57 d.1)) (λ u. rw (eq-eqb b 95 u, or-true)) p,
)

name_byte_is : (b : ℕ) → (name_byte b ≡ true) ↔ NameByte b
name_byte_is b = (
  λ e. ⊎_elim (λ l. inl ((letter_is b).0 l)) (λ d. inr ((digit_is b).0 d)) (either (letter b) _ e),
  λ p. ⊎_elim (λ l. rw ((letter_is b).1 l)) (λ d. rw ((digit_is b).1 d, or-true)) p,
)

run_all : (s : List ℕ) → (name_run s ≡ length s) ↔ Each NameByte s
unfolding run_by
run_all [] = (λ e. record {}, λ e. refl)
run_all (b ∷ s) = go (name_byte b) (name_byte_is b) (run_all s)
  where
    go : (t : Bool) → (t ≡ true) ↔ NameByte b → (name_run s ≡ length s) ↔ Each NameByte s →
        (cond t (suc (name_run s)) 0 ≡ suc (length s)) ↔ (NameByte b × Each NameByte s)
    go true g f = (λ e. (g.0 refl, f.0 (omega arith)), λ w. ap suc (f.1 w.1))
    go false g f = (λ e. absurd (omega arith), λ w. absurd (false≢true (g.1 w.0)))

-- A count and the bytes that it counts, as `name_of` tests them.
record Counted (count : ℕ) (s : List ℕ) : Type 0 where
  least : 1 ≤ count
  most : count ≤ 32
  size : length s ≡ count
  front : name_front s ≡ count

name_counted : (count : ℕ) (s : List ℕ) → Name (count ∷ s) → Counted count s
unfolding front_by
name_counted count s n =
    let c : count ≡ suc (length n.others) = cc n.spelled in
    let e : s ≡ n.first ∷ n.others = cc n.spelled in
    rw (c, e)
    (record {
      least = omega arith;
      most = n.short;
      size = refl;
      front = rw ((letter_is n.first).1 n.begins) (ap suc ((run_all n.others).1 n.goes_on));
    })

counted_name : (count : ℕ) (s : List ℕ) → Counted count s → Name (count ∷ s)
unfolding front_by
counted_name count [] c = absurd (omega arith)
counted_name count (b ∷ s) c = go (letter b) refl c.front
  where
    go : (t : Bool) → letter b ≡ t → cond t (suc (name_run s)) 0 ≡ count → Name (count ∷ b ∷ s)
    go true e f = let size : suc (length s) ≡ count = c.size in
        record { first = b; others = s; spelled = rw size; short = omega arith; begins = (letter_is b).0 e; goes_on = (run_all s).0 (omega arith) }
    go false e f = absurd (omega arith)

-- What takes bytes has passed the test.
pub taken : (b : Bool) (x : Own) (j k : ℕ) → cond b x (Err j) ≡ Ok k → (b ≡ true) × (x ≡ Ok k)
taken true x j k e = (refl, e)
taken false x j k e = clash cc

pub name_taken : (text inner : List ℕ) → Name text → name_of (text ++ inner) ≡ Ok (length text)
unfolding name_by spelled
name_taken [] inner n = absurd (nil≢cons n.spelled)
name_taken (count ∷ s) inner n =
    let c = name_counted count s n in
    let fits : count ≤ length (s ++ inner) = omega (arith, length-append s inner, c.size) in
    rw (le-leb 1 count c.least, le-leb count 32 c.most, le-leb count (length (s ++ inner)) fits)
    (rw (take_at s inner count c.size, c.front, eq-eqb count count refl) (ap Ok (omega arith)))

pub name_size : (text rest : List ℕ) → Name text → suc (get_or (text ++ rest) 0 0) ≡ length text
name_size [] rest n = absurd (nil≢cons n.spelled)
name_size (count ∷ s) rest n = ap suc (sym (name_counted count s n).size)

pub taken_name : (s : List ℕ) (k : ℕ) → name_of s ≡ Ok k → Name (take k s) × (length (take k s) ≡ k)
unfolding name_by spelled
taken_name [] k e = clash cc
taken_name (count ∷ s) k e =
    let w = taken (leb 1 count && (leb count 32 && leb count (length s))) _ 0 k e in
    let v = taken (eqb (name_front (take count s)) count) (Ok (1 + count)) (1 + name_front (take count s)) k w.1 in
    let few = both (leb 1 count) _ w.0 in
    let bounds = both (leb count 32) _ few.1 in
    let counted : Counted count (take count s) =
    record {
      least = leb-true 1 count few.0;
      most = leb-true count 32 bounds.0;
      size = length-take-le count s (leb-true count (length s) bounds.1);
      front = eqb-true _ count v.0;
    } in
    let total : 1 + count ≡ k = cc v.1 in
    let all : k ≡ suc count = omega arith in
    rw all (counted_name count (take count s) counted, ap suc counted.size)
