-- No bytes run out of fuel.
use Rattle.std.proofs.Common.{◌≡◌, ap, Bool, List, [], ◌∷◌, ℕ, zero, suc, ◌+◌, ◌*◌, arith, le-mul_of_pos_right, length}
use Rattle.std.proofs.lemmas.List.{length-reverse}
use Rattle.cdf_unit_table.proofs.Bools.{clash}
use Rattle.cdf_unit_prefix.specs.Layout.{Layout, prefix_of}
use Rattle.cdf_unit_judge.specs.Judge.{judge_of, Judged}
use Rattle.cdf_unit_list.specs.Units.{unfinished, go_on, list_from, list_by, Next, whole, broken, listed, next}
use Rattle.cdf_unit_list.specs.declared.Unit.{Unit}
use Rattle.cdf_unit_list.proofs.Few.{few}

-- Out of fuel, as many units are listed as there was fuel.
spent : (fuel : ℕ) (l : Layout) (s : List ℕ) (first : Judged) (us : List Unit) → (list_from fuel l s first us).end ≡ unfinished →
    length (list_from fuel l s first us).units ≡ fuel + length us
unfolding list_from go_on
spent zero l s first us e = simp length-reverse (omega arith)
spent (suc fuel) l s first us e = go (next l s first us) e (λ v. spent fuel l s first (v ∷ us))
  where
    go : (n : Next) → (go_on (list_from fuel l s first) us n).end ≡ unfinished →
        ((v : Unit) → (list_from fuel l s first (v ∷ us)).end ≡ unfinished →
        length (list_from fuel l s first (v ∷ us)).units ≡ fuel + length (v ∷ us)) →
        length (go_on (list_from fuel l s first) us n).units ≡ suc fuel + length us
    go whole e more = clash cc
    go (broken k at) e more = clash cc
    go (listed v) e more = omega (arith, more v e)

pub finishes : (l : Layout) (s : List ℕ) (root : Bool) (state : ℕ) → (list_by l s (judge_of l root state s)).end ≡ unfinished → ⊥
unfolding list_by
finishes l s root state e =
    let all = spent (suc (length s)) l s (judge_of l root state s) [] e in
    let fit = few l s root state in
    let one = le-mul_of_pos_right {m = prefix_of l} (suc (length s)) (omega arith) in
    omega (arith, ap (λ n. n * prefix_of l) all)
