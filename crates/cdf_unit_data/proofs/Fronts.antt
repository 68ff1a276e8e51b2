-- What own data take depends on how many bytes there are and on those that are taken, and on none behind them.
use Rattle.std.proofs.Common.{ℕ, suc, ◌+◌, ◌≡◌, refl, sym, ap, ◌∙◌, Bool, true, false, cond, List, [], ◌∷◌, arith, eq-eqb, leb, length, take}
use Rattle.cdf_unit_table.specs.Ids.{Rule, blank, name, name_value, value, numbers, kind_of}
use Rattle.cdf_unit_table.specs.States.{opens}
use Rattle.cdf_unit_table.proofs.Bools.{clash}
use Rattle.cdf_unit_data.specs.Data.{name_bytes, spelled, name_by, name_of, value_from, value_after, numbers_of, data_by, own_data_by, own_data, Own}
use Rattle.cdf_unit_data.specs.Claims.{Agree}
use Rattle.std.specs.Prelude.{Ok, Err}
use Rattle.cdf_unit_data.proofs.Pointing.{named}

-- A right name takes its count byte and so many more.
name_count : (count : ℕ) (s : List ℕ) (k : ℕ) → name_of (count ∷ s) ≡ Ok k → k ≡ suc count
unfolding name_by spelled
name_count count s k e =
    let w = named count s (k, e) in
    let is : Ok (1 + count) ≡ Ok k = sym (rw (w.0, w.1, eq-eqb count count refl)) ∙ e in
    let same : 1 + count ≡ k = cc in
    omega arith

name_same : (s t : List ℕ) (k : ℕ) → Agree k s t → name_of s ≡ Ok k → name_of t ≡ Ok k
unfolding name_by spelled
name_same [] t k a e = clash cc
name_same (c ∷ s) [] k a e = absurd (omega (arith, a.0))
name_same (c ∷ s) (d ∷ t) k a e =
    let w = named c s (k, e) in
    let is = name_count c s k e in
    let front : d ∷ take c t ≡ c ∷ take c s = rw is at a.1 in
    let same : d ≡ c = cc in
    let rest : take c t ≡ take c s = cc in
    let long : length t ≡ length s = omega (arith, a.0) in
    rw (same, rest, long, w.0, w.1, eq-eqb c c refl) (ap Ok (omega arith))

value_same : (s t : List ℕ) (at k : ℕ) → length t ≡ length s → value_from at s ≡ Ok k → value_from at t ≡ Ok k
unfolding value_from
value_same s t at k long e = rw long e

-- A value that is right is taken from where it begins.
value_at : (s : List ℕ) (at k : ℕ) → value_from at s ≡ Ok k → at ≡ k
unfolding value_from
value_at s at k e = go (leb (length s) (at + 4096)) e
  where
    go : (b : Bool) → cond b (Ok at) (Err (at + 4096)) ≡ Ok k → at ≡ k
    go true e = cc
    go false e = clash cc

data_same : (r : Rule) (others : Bool) (s t : List ℕ) (k : ℕ) → Agree k s t → data_by name_bytes r others s ≡ Ok k →
    data_by name_bytes r others t ≡ Ok k
unfolding data_by numbers_of value_after
data_same blank others s t k a e = e
data_same name others s t k a e = name_same s t k a e
data_same name_value others s t k a e = go (name_of s) refl e
  where
    go : (x : Own) → name_of s ≡ x → value_after s x ≡ Ok k → value_after t (name_of t) ≡ Ok k
    go (Ok at) q e =
        let same = value_at s at k e in
        rw (name_same s t k a (rw same at q)) (value_same s t k k a.0 (rw same at e))
    go (Err at) q e = clash cc
data_same value others s t k a e = value_same s t 0 k a.0 e
data_same (numbers n) others s t k a e = rw a.0 e

pub own_same : (id : ℕ) (s t : List ℕ) (k : ℕ) → Agree k s t → own_data id s ≡ Ok k → own_data id t ≡ Ok k
unfolding own_data_by
own_same id = data_same (kind_of id).rule (opens id)
