-- What comes next after units listed so far: it is settled by them, or by how one part of the bytes is judged.
use Rattle.std.proofs.Common.{ℕ, ◌+◌, ◌-◌, ◌≤◌, ◌<◌, ◌≡◌, refl, sym, ap, ◌∙◌, Bool, true, false, not, List, [], ◌∷◌, ◌⊎◌, inl, inr, arith, eqb}
use Rattle.std.proofs.Common.{length, take, drop, set, length-take}
use Rattle.std.proofs.lemmas.List.{drop-set-add}
use lib.Seq.{take-set-lt}
use Rattle.cdf_unit_table.specs.Ids.{ids_end}
use Rattle.cdf_unit_table.specs.States.{admit, root_kind, admits}
use Rattle.cdf_unit_table.specs.Tables.{those}
use Rattle.cdf_unit_table.proofs.Bools.{clash}
use Rattle.cdf_unit_prefix.specs.Layout.{Layout}
use Rattle.cdf_unit_data.specs.Claims.{Agree}
use Rattle.cdf_unit_judge.specs.Judge.{judge_of, Judged, Fault, Found}
use Rattle.cdf_unit_judge.proofs.Placed.{placed}
use Rattle.cdf_unit_list.specs.Units.{after, open_at, closing_at, state_of, Next, whole, broken, listed, unit_at, closed, within, or_else, next_at, next}
use Rattle.cdf_unit_list.specs.declared.Unit.{Unit}
use Rattle.cdf_unit_list.proofs.Entering.{after_between, unit_from}
use Rattle.cdf_explain_spec.specs.Why.{kept_open, open_around, admitted_by}
use Rattle.cdf_explain_spec.specs.Claims.{behind}
use Rattle.cdf_explain_spec.proofs.Last.{Incomplete, by_closing}
use Rattle.cdf_explain_spec.proofs.Admitted.{root_admits}
use Rattle.cdf_explain_spec.proofs.Alike.{agree_front, agree_part, judge_same}

module _ (l : Layout) where
  abbrev pub next_of : List ℕ → List Unit → Next
  next_of r us = next l r (judge_of l true 0 r) us

  -- Whatever the bytes: nothing, or 10.
  pub record Settled (us : List Unit) : Type 0 where
    pub comes : Next
    pub is : (r : List ℕ) → next_of r us ≡ comes
    pub ten : (n at : ℕ) → comes ≡ broken n at → n ≡ 10
    pub none : (u : Unit) → comes ≡ listed u → ⊥

  -- A unit is tried: the part of the bytes that is judged, and the ids that are admitted there.
  pub record Tried (us : List Unit) : Type 0 where
    pub root : Bool
    pub state : ℕ
    pub part : List ℕ → List ℕ
    pub is : (r : List ℕ) → next_of r us ≡ unit_at (behind us) (judge_of l root state (part r))
    pub alike : (m k : ℕ) (r q : List ℕ) → Agree m r q → behind us + k ≤ m → k ≤ length (part r) → Agree k (part r) (part q)
    pub put : (r : List ℕ) (i v : ℕ) → i < length (part r) → part (set r (behind us + i) v) ≡ set (part r) i v
    pub may : ℕ → Bool
    pub ids : admitted_by us (open_around us) ≡ those may ids_end
    pub test : (id : ℕ) → id < ids_end → may id ≡ not (eqb (admits root state id) 0)

  at_front : Tried []
  unfolding next open_around admitted_by
  at_front = record {
    root = true;
    state = 0;
    part = λ r. r;
    is = λ r. refl;
    alike = λ m k r q a h few. (a.0, agree_front m r q a k (omega arith));
    put = λ r i v h. let e : 0 + i ≡ i = omega arith in rw e;
    may = root_kind;
    ids = refl;
    test = root_admits;
  }

  module _ (u : Unit) (us : List Unit) where
    abbrev pos : ℕ
    pos = after u

    abbrev kept : List Unit
    kept = kept_open (u ∷ us) (closing_at pos (u ∷ us))

    inside : (o : Unit) (os : List Unit) → open_at pos (u ∷ us) ≡ o ∷ os → closed (u ∷ us) (closing_at pos (u ∷ us)) ≡ whole → kept ≡ [] →
        Tried (u ∷ us)
    unfolding next next_at or_else within open_around admitted_by admits
    inside o os e c k = record {
      root = false;
      state = state_of (u ∷ us) o;
      part = λ r. take (o.end - pos) (drop pos r);
      is = λ r. rw (c, e);
      alike = λ m k r q a h few. agree_part m r q a pos k (o.end - pos) h (omega (arith, length-take (o.end - pos) (drop pos r)));
      put = λ r i v h.
          rw (drop-set-add pos r i v)
          (take-set-lt (o.end - pos) (drop pos r) i v (omega (arith, length-take (o.end - pos) (drop pos r))));
      may = λ id. not (eqb (admit (state_of (u ∷ us) o) id) 0);
      ids = rw (k, e);
      test = λ id h. refl;
    }

    closing : Incomplete (u ∷ us) (closing_at pos (u ∷ us)) → Settled (u ∷ us)
    unfolding next next_at or_else
    closing w = record {
      comes = broken 10 w.unit.start;
      is = λ r. rw w.tells;
      ten = λ n at e. sym (let z : ◌≡◌ {A = ℕ} 10 n = cc in z);
      none = λ v e. clash cc;
    }

    over : open_at pos (u ∷ us) ≡ [] → closed (u ∷ us) (closing_at pos (u ∷ us)) ≡ whole → Settled (u ∷ us)
    unfolding next next_at or_else within
    over e c = record {
      comes = whole;
      is = λ r. rw (c, e);
      ten = λ n at e. clash cc;
      none = λ v e. clash cc;
    }

  pub by_next : (us : List Unit) → Settled us ⊎ Tried us
  by_next [] = inr at_front
  by_next (u ∷ us) = go (by_closing (u ∷ us) (closing_at (after u) (u ∷ us))) (open_at (after u) (u ∷ us)) refl
    where
      go : ((closed (u ∷ us) (closing_at (after u) (u ∷ us)) ≡ whole) × (kept u us ≡ []))
          ⊎ Incomplete (u ∷ us) (closing_at (after u) (u ∷ us)) → (os : List Unit) → open_at (after u) (u ∷ us) ≡ os → Settled (u ∷ us) ⊎ Tried (u ∷ us)
      go (inl w) [] e = inl (over u us e w.0)
      go (inl w) (o ∷ os) e = inr (inside u us o os e w.0 w.1)
      go (inr w) os e = inl (closing u us w)

  -- A unit is listed: so it was found in that part.
  record Lists (r : List ℕ) (us : List Unit) (u : Unit) : Type 0 where
    tried : Tried us
    id : ℕ
    action : ℕ
    own : ℕ
    len : ℕ
    state : ℕ
    judged : judge_of l tried.root tried.state (tried.part r) ≡ Found id action own len state
    unit : u ≡ unit_from (behind us) id action own len

  lists : (r : List ℕ) (us : List Unit) (u : Unit) → next_of r us ≡ listed u → Lists r us u
  unfolding unit_at
  lists r us u e = go (by_next us)
    where
      found : (t : Tried us) (j : Judged) → judge_of l t.root t.state (t.part r) ≡ j → unit_at (behind us) j ≡ listed u → Lists r us u
      found t (Fault n k) q e = clash cc
      found t (Found id action own len state) q e =
          record { tried = t; id = id; action = action; own = own; len = len; state = state; judged = q; unit = cc }

      go : Settled us ⊎ Tried us → Lists r us u
      go (inl w) = absurd (w.none u (sym (w.is r) ∙ e))
      go (inr t) = found t _ refl (sym (t.is r) ∙ e)

  -- It stands where the next unit may, and its own data come behind that,
  pub next_place : (r : List ℕ) (us : List Unit) (u : Unit) → next_of r us ≡ listed u → (behind us < u.own) × (u.own ≤ after u)
  next_place r us u e =
      let w = lists r us u e in
      let p = placed l w.tried.root w.tried.state (w.tried.part r) w.judged in
      let v = unit_from (behind us) w.id w.action w.own w.len in
      let between = after_between v (omega (arith, p.inside)) in
      rw w.unit (omega (arith, p.room), between.0)

  -- and bytes that agree up to these list it too.
  pub next_same : (m : ℕ) (r q : List ℕ) (us : List Unit) (u : Unit) → Agree m r q → u.own ≤ m → next_of r us ≡ listed u → next_of q us ≡ listed u
  unfolding unit_at
  next_same m r q us u a h e =
      let w = lists r us u e in
      let p = placed l w.tried.root w.tried.state (w.tried.part r) w.judged in
      let far : behind us + w.own ≤ m = rw w.unit at h in
      let same = w.tried.alike m w.own r q a far (omega (arith, p.inside, p.high)) in
      w.tried.is q
      ∙ ap (unit_at (behind us)) (judge_same l w.tried.root w.tried.state (w.tried.part r) (w.tried.part q) same w.judged)
      ∙ ap listed (sym w.unit)
