-- A unit's own data takes no more bytes than there are, and a byte that breaks its rule is no further than their end.
use Rattle.std.proofs.Common.{◌≡◌, subst, Bool, false, true, cond, ◌&&◌, List, [], ◌∷◌, ℕ, ◌≤◌, ◌+◌, arith, leb-true, leb-false, eqb-true, leb, eqb}
use Rattle.std.proofs.Common.{length, take}
use Rattle.cdf_unit_table.specs.Ids.{Rule, blank, name, name_value, value, numbers, kind_of}
use Rattle.cdf_unit_table.specs.States.{opens}
use Rattle.cdf_unit_data.specs.Data.{NameBytes, front_by, spelled, name_by, value_from, value_after, data_by, own_data_by, Own}
use Rattle.std.specs.Prelude.{Ok, Err}
use Rattle.cdf_unit_table.proofs.Bools.{both, of_cond}
use Rattle.cdf_unit_data.proofs.Names.{front_short}

-- What is taken, and the first byte that breaks a rule: neither is past n.
abbrev Fits : ℕ → Own → Type 0
Fits n (Ok k) = k ≤ n
Fits n (Err k) = k ≤ n

spelled_fits : (count front n : ℕ) → 1 + count ≤ n → front ≤ count → Fits n (spelled count front)
unfolding spelled
spelled_fits count front n h f =
    of_cond (Fits n) (eqb front count) (Ok (1 + count)) (Err (1 + front)) (λ e. h) (λ e. omega arith)

-- a name takes its count and so many bytes more
name_fits : (w : NameBytes) (s : List ℕ) (n : ℕ) → ((count : ℕ) → count ≤ 32 → 1 + count ≤ length s → 1 + count ≤ n) → Fits n (name_by w s)
unfolding name_by
name_fits w [] n few = omega arith
name_fits w (count ∷ s) n few =
    of_cond (Fits n) (leb 1 count && (leb count 32 && leb count (length s))) _ (Err 0)
    (λ e. let h = both (leb count 32) (leb count (length s)) (both (leb 1 count) _ e).1 in
    let within = leb-true count (length s) h.1 in
    spelled_fits count (front_by w (take count s)) n (few count (leb-true count 32 h.0) (omega arith)) (front_short w count s))
    (λ e. omega arith)

pub name_short : (w : NameBytes) (s : List ℕ) (k : ℕ) → name_by w s ≡ Ok k → k ≤ 33
name_short w s k e = subst (Fits 33) e (name_fits w s 33 (λ count low within. omega arith))

value_fits : (k : ℕ) (s : List ℕ) → k ≤ length s → Fits (length s) (value_from k s)
unfolding value_from
value_fits k s h =
    of_cond (Fits (length s)) (leb (length s) (k + 4096)) (Ok k) (Err (k + 4096)) (λ e. h)
    (λ e. omega (arith, leb-false (length s) (k + 4096) e))

after_fits : (s : List ℕ) (x : Own) → Fits (length s) x → Fits (length s) (value_after s x)
unfolding value_after
after_fits s (Ok k) h = value_fits k s h
after_fits s (Err k) h = h

enough : (n m : ℕ) (others : Bool) → cond others (leb n m) (eqb m n) ≡ true → n ≤ m
enough n m true e = leb-true n m e
enough n m false e = omega (arith, eqb-true m n e)

data_fits : (w : NameBytes) (r : Rule) (others : Bool) (s : List ℕ) → Fits (length s) (data_by w r others s)
unfolding data_by
data_fits w blank others s = omega arith
data_fits w name others s = name_fits w s (length s) (λ count low within. within)
data_fits w name_value others s = after_fits s (name_by w s) (name_fits w s (length s) (λ count low within. within))
data_fits w value others s = value_fits 0 s (omega arith)
data_fits w (numbers n) others s =
    of_cond (Fits (length s)) (cond others (leb n (length s)) (eqb (length s) n)) (Ok n) (Err 0)
    (enough n (length s) others) (λ e. omega arith)

pub taken_fits : (w : NameBytes) (id : ℕ) (s : List ℕ) (k : ℕ) → own_data_by w id s ≡ Ok k → k ≤ length s
unfolding own_data_by
taken_fits w id s k e = subst (Fits (length s)) e (data_fits w (kind_of id).rule (opens id) s)

pub broken_fits : (w : NameBytes) (id : ℕ) (s : List ℕ) (k : ℕ) → own_data_by w id s ≡ Err k → k ≤ length s
unfolding own_data_by
broken_fits w id s k e = subst (Fits (length s)) e (data_fits w (kind_of id).rule (opens id) s)
