-- An id is told exactly if a unit of it would not get 7.
use Rattle.std.proofs.Common.{ℕ, zero, suc, ◌-◌, ◌≤◌, ◌<◌, ◌≡◌, refl, sym, ap, ◌∙◌, Bool, true, false, cond, not, List, [], ◌∷◌, ◌++◌, reverse}
use Rattle.std.proofs.Common.{append-nil, ◌↔◌, arith, eqb-true, ltb-true, eqb, ltb, leb, take, drop}
use Rattle.std.proofs.lemmas.Bool.{eqb-false}
use Rattle.std.proofs.lemmas.List.{reverse-append, reverse-reverse}
use Rattle.cdf_unit_table.specs.Ids.{member, known, ids_end}
use Rattle.cdf_unit_table.specs.States.{admit, root_kind, admits}
use Rattle.cdf_unit_table.specs.Tables.{those}
use Rattle.cdf_unit_table.proofs.Bools.{both, clash}
use Rattle.cdf_unit_table.proofs.Rows.{admit_none}
use Rattle.cdf_unit_table.proofs.Tables.{same_below}
use Rattle.cdf_unit_prefix.specs.Layout.{Layout, prefix_of}
use Rattle.cdf_unit_prefix.specs.Rules.{head_of, Prefix}
use Rattle.cdf_unit_judge.specs.Judge.{body_of, found_by, judge_head, judge_by, judge_of, judge_in, Body, Action, Data, Whole, Judged, Fault}
use Rattle.cdf_unit_judge.proofs.Placed.{headed}
use Rattle.cdf_unit_list.specs.Units.{state_of, End, unfinished, ended, fault, listing}
use Rattle.cdf_unit_list.specs.Check.{check_of}
use Rattle.cdf_unit_list.specs.declared.Unit.{Unit}
use Rattle.cdf_explain_spec.specs.Why.{open_around, admitted_by, why_after, why_of}
use Rattle.cdf_explain_spec.specs.Claims.{Last, Rising}
use Rattle.cdf_explain_spec.proofs.Members.{member_those}
use Rattle.cdf_explain_spec.proofs.Last.{Stopped, stopped, why_is}
use Rattle.cdf_explain_spec.proofs.Told.{accepted, refused_ids}

-- The numbers that pass a test rise.
further : (a b n : ℕ) (xs : List ℕ) → b ≤ n → Rising a b xs → Rising a (suc n) (xs ++ (n ∷ []))
further a b n [] h r = (omega arith, omega arith)
further a b n (x ∷ xs) h r = (r.0, further (suc x) b n xs h r.1)

wider : (a b c : ℕ) (xs : List ℕ) → b ≤ c → Rising a b xs → Rising a c xs
wider a b c [] h r = omega arith
wider a b c (x ∷ xs) h r = (r.0, wider (suc x) b c xs h r.1)

those_rise : (f : ℕ → Bool) → f 0 ≡ false → (n : ℕ) → Rising 1 (suc n) (those f (suc n))
unfolding those
those_rise f none zero = rw none (omega arith)
those_rise f none (suc n) = go (f (suc n)) (those_rise f none n)
  where
    go : (b : Bool) → Rising 1 (suc n) (those f (suc n)) → Rising 1 (suc (suc n)) (those f (suc n) ++ cond b (suc n ∷ []) [])
    go true r = further 1 (suc n) (suc n) (those f (suc n)) (omega arith) r
    go false r = rw (append-nil (those f (suc n))) (wider 1 (suc n) (suc (suc n)) (those f (suc n)) (omega arith) r)

pub ids_rise : (l : Layout) (s : List ℕ) → Rising 1 15 (why_of l s).ids
unfolding why_of why_after admitted_by root_kind
ids_rise l s = of_end (listing l s).end
  where
    us : List Unit
    us = reverse (listing l s).units

    admitted : (os : List Unit) → Rising 1 15 (admitted_by us os)
    admitted [] = those_rise root_kind refl 14
    admitted (o ∷ os) = those_rise (λ id. not (eqb (admit (state_of us o) id) 0)) (rw (admit_none (state_of us o))) 14

    of_end : (e : End) → Rising 1 15 (why_after us e).ids
    of_end unfinished = omega arith
    of_end ended = omega arith
    of_end (fault n at) = admitted (open_around us)

-- What passes 3 to 6 gets 7 exactly if it is not admitted.
module _ (l : Layout) (root : Bool) (t : List ℕ) (id action len : ℕ) (q : head_of l root t ≡ Prefix id action len) where
  seven_if : (b : Bool) (j : Judged) → (j ≡ Fault 7 0 → ⊥) → (cond b (Fault 7 0) j ≡ Fault 7 0) ↔ (not b ≡ false)
  seven_if true j other = ((λ e. refl), (λ e. refl))
  seven_if false j other = ((λ e. absurd (other e)), (λ e. clash cc))

  body_other : (next : ℕ) (c : Body) → found_by l id action len next c ≡ Fault 7 0 → ⊥
  unfolding found_by
  body_other next Action e = let z : ◌≡◌ {A = ℕ} 8 7 = cc in omega arith
  body_other next (Data k) e = let z : ◌≡◌ {A = ℕ} 9 7 = cc in omega arith
  body_other next (Whole k) e = clash cc

  seven : (state : ℕ) → (judge_of l root state t ≡ Fault 7 0) ↔ (not (eqb (admits root state id) 0) ≡ false)
  unfolding judge_in judge_by judge_head
  seven state =
      let next = admits root state id in
      rw q (seven_if (eqb next 0) _ (body_other next (body_of id action (take (len - prefix_of l) (drop (prefix_of l) t)))))

  below : id < ids_end
  unfolding known
  below = ltb-true id ids_end (both (leb 1 id) (ltb id ids_end) (headed l root t id action len q).recognised).1

  -- So where the ids told are those that pass this test.
  pub told_seven : (state : ℕ) (f : ℕ → Bool) → f id ≡ not (eqb (admits root state id) 0) →
      (judge_of l root state t ≡ Fault 7 0) ↔ (member id (those f ids_end) ≡ false)
  told_seven state f e = rw (member_those f ids_end id below, e) (seven state)

-- A root's ids, by one computation.
pub root_admits : (id : ℕ) → id < ids_end → root_kind id ≡ not (eqb (admits true 0 id) 0)
unfolding root_kind admits
root_admits = same_below root_kind (λ id. not (eqb (admits true 0 id) 0)) ids_end refl

-- A list that ends so begins so, turned round.
turned_last : (us outer : List Unit) (o : Unit) → reverse us ≡ outer ++ (o ∷ []) → us ≡ o ∷ reverse outer
turned_last us outer o e = sym (reverse-reverse us) ∙ ap reverse e ∙ reverse-append outer (o ∷ [])

never_last : (us outer : List Unit) (o : Unit) → us ≡ [] → us ≡ outer ++ (o ∷ []) → ⊥
never_last us [] o n e = clash cc
never_last us (x ∷ outer) o n e = clash cc

module _ (l : Layout) (s : List ℕ) where
  pub nested_ids : (o : Unit) → Last o (why_of l s).units → (t : List ℕ) (id action len : ℕ) → head_of l false t ≡ Prefix id action len →
      (judge_of l false (state_of (reverse (listing l s).units) o) t ≡ Fault 7 0) ↔ (member id (why_of l s).ids ≡ false)
  unfolding admitted_by admits
  nested_ids o (outer, last) t id action len q = go (eqb (check_of l s).number 0) refl
    where
      by_stop : (w : Stopped l s) → reverse (open_around w.before) ≡ outer ++ (o ∷ []) →
          (judge_of l false (state_of (reverse (listing l s).units) o) t ≡ Fault 7 0) ↔ (member id (why_of l s).ids ≡ false)
      by_stop w last =
          rw (why_is l s w, w.units, reverse-reverse w.before, turned_last (open_around w.before) outer o last)
          (told_seven l false t id action len q (state_of w.before o) (λ id. not (eqb (admit (state_of w.before o) id) 0)) refl)

      go : (b : Bool) → eqb (check_of l s).number 0 ≡ b →
          (judge_of l false (state_of (reverse (listing l s).units) o) t ≡ Fault 7 0) ↔ (member id (why_of l s).ids ≡ false)
      go true e = absurd (never_last (why_of l s).units outer o (rw (accepted l s (eqb-true (check_of l s).number 0 e))) last)
      go false e = let w = stopped l s (eqb-false (check_of l s).number 0 e) in by_stop w (rw (why_is l s w) at last)

  pub root_ids : (listing l s).units ≡ [] → (t : List ℕ) (id action len : ℕ) → head_of l true t ≡ Prefix id action len →
      (judge_of l true 0 t ≡ Fault 7 0) ↔ (member id (why_of l s).ids ≡ false)
  root_ids none t id action len q =
      rw (refused_ids l s none) (told_seven l true t id action len q 0 root_kind (root_admits id (below l true t id action len q)))
