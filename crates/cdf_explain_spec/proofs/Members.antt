-- Which units and which ids are among others.
use Rattle.std.proofs.Common.{ℕ, zero, suc, ◌≤◌, ◌<◌, ◌≡◌, refl, ◌∙◌, Bool, true, false, cond, ◌&&◌, ◌||◌, List, [], ◌∷◌, ◌++◌, reverse, ◌⊎◌, inl}
use Rattle.std.proofs.Common.{inr, arith, eqb-true, eq-eqb, ne_eqb, eqb}
use Rattle.std.proofs.lemmas.Bool.{eqb-false}
use Rattle.std.proofs.lemmas.List.{reverse-reverse}
use Rattle.cdf_unit_table.specs.Ids.{member}
use Rattle.cdf_unit_table.specs.States.{opens}
use Rattle.cdf_unit_table.specs.Tables.{those}
use Rattle.cdf_unit_table.proofs.Bools.{clash}
use Rattle.cdf_unit_list.specs.Units.{parents_that}
use Rattle.cdf_unit_list.specs.declared.Unit.{Unit}
use Rattle.cdf_unit_list.proofs.Nested.{Nested}
use Rattle.cdf_explain_spec.specs.Claims.{OneOf, here, there, Each}
use Rattle.cdf_explain_spec.proofs.Inwards.{one_turned}

pub each_at : {w : Unit} {us : List Unit} (P : Unit → Type 0) → OneOf w us → Each P us → P w
each_at P here h = h.0
each_at P (there o) h = each_at P o h.1

none_in : {w : Unit} {us : List Unit} → OneOf w us → us ≡ [] → ⊥
none_in here e = clash cc
none_in (there o) e = clash cc

pub one_none : {w : Unit} → OneOf w [] → ⊥
one_none o = none_in o refl

pub first_or : {w v : Unit} {us vs : List Unit} → OneOf w us → us ≡ v ∷ vs → (w ≡ v) ⊎ OneOf w vs
first_or here e = inl cc
first_or {vs = vs} (there {us = us} o) e = let same : us ≡ vs = cc in inr (rw same at o)

-- In two lists, one behind the other.
pub one_split : {w : Unit} (us vs : List Unit) → OneOf w (us ++ vs) → OneOf w us ⊎ OneOf w vs
one_split [] vs o = inr o
one_split {w} (u ∷ us) vs o = go (first_or o refl) (one_split us vs)
  where
    go : (w ≡ u) ⊎ OneOf w (us ++ vs) → (OneOf w (us ++ vs) → OneOf w us ⊎ OneOf w vs) → OneOf w (u ∷ us) ⊎ OneOf w vs
    go (inl e) more = inl (rw e here)
    go (inr o) more = on (more o)
      where
        on : OneOf w us ⊎ OneOf w vs → OneOf w (u ∷ us) ⊎ OneOf w vs
        on (inl o) = inl (there o)
        on (inr o) = inr o

pub one_right : {w : Unit} (us : List Unit) {vs : List Unit} → OneOf w vs → OneOf w (us ++ vs)
one_right [] o = o
one_right (u ∷ us) o = there (one_right us o)

-- The other way round.
pub turned_one : {w : Unit} (us : List Unit) → OneOf w (reverse us) → OneOf w us
turned_one us o = rw reverse-reverse at (one_turned [] o)

-- A unit that admits others and passes the test is one of those that do.
pub one_passes : {w : Unit} {us : List Unit} (f : Unit → Bool) → OneOf w us → opens w.id ≡ true → f w ≡ true → OneOf w (parents_that f us)
unfolding parents_that
one_passes f here o e = rw (o, e) here
one_passes {w} f (there {v = v} {us = us} h) o e = go (opens v.id && f v) (one_passes f h o e)
  where
    go : (b : Bool) → OneOf w (parents_that f us) → OneOf w (cond b (v ∷ parents_that f us) (parents_that f us))
    go true more = there more
    go false more = more

-- Units that lie in one another, the innermost first: each surrounds what they all surround,
pub surrounds : {w : Unit} {us : List Unit} (start end : ℕ) → Nested start end us → OneOf w us → (w.start < start) × (end ≤ w.end)
surrounds start end h here = (h.0, h.1)
surrounds start end h (there {v = v} o) = let more = surrounds v.start v.end h.2 o in omega arith

-- and starts behind those further out.
pub inner_later : {w : Unit} {us : List Unit} (start end : ℕ) (c : Unit) (vs : List Unit) → Nested start end (us ++ (c ∷ vs)) → OneOf w us →
    c.start < w.start
inner_later {w} start end c vs h (here {us = us}) = (surrounds w.start w.end h.2 (one_right us here)).0
inner_later start end c vs h (there {v = v} o) = inner_later v.start v.end c vs h.2 o

-- The ids that pass a test.
either_member : (id : ℕ) (xs ys : List ℕ) → member id (xs ++ ys) ≡ (member id xs || member id ys)
unfolding member
either_member id [] ys = refl
either_member id (x ∷ xs) ys = go (eqb id x) (either_member id xs ys)
  where
    go : (b : Bool) → member id (xs ++ ys) ≡ (member id xs || member id ys) → (b || member id (xs ++ ys)) ≡ ((b || member id xs) || member id ys)
    go true e = refl
    go false e = e

module _ (f : ℕ → Bool) where
  last_other : (n id : ℕ) → (id ≡ n → ⊥) → member id (cond (f n) (n ∷ []) []) ≡ false
  unfolding member
  last_other n id d = go (f n)
    where
      go : (b : Bool) → member id (cond b (n ∷ []) []) ≡ false
      go true = rw (ne_eqb id n d)
      go false = refl

  beyond : (n id : ℕ) → n ≤ id → member id (those f n) ≡ false
  unfolding those member
  beyond zero id h = refl
  beyond (suc n) id h =
      either_member id (those f n) (cond (f n) (n ∷ []) []) ∙ rw (beyond n id (omega arith)) (last_other n id (λ e. omega arith))

  pub member_those : (n id : ℕ) → id < n → member id (those f n) ≡ f id
  unfolding those member
  member_those zero id h = absurd (omega arith)
  member_those (suc n) id h = either_member id (those f n) (cond (f n) (n ∷ []) []) ∙ go (eqb id n) refl (member_those n id)
    where
      or-false : (b : Bool) → (b || false) ≡ b
      or-false true = refl
      or-false false = refl

      last : (b : Bool) → member n (cond b (n ∷ []) []) ≡ b
      last true = rw (eq-eqb n n refl)
      last false = refl

      go : (b : Bool) → eqb id n ≡ b → (id < n → member id (those f n) ≡ f id) →
          (member id (those f n) || member id (cond (f n) (n ∷ []) [])) ≡ f id
      go true e more = let same = eqb-true id n e in rw (same, beyond n n (omega arith)) (last (f n))
      go false e more =
          let d = eqb-false id n e in
          rw (more (omega arith), last_other n id d) (or-false (f id))
