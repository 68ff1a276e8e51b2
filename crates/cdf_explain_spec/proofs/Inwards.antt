-- The open units lie inside one another, the root first.
use Rattle.std.proofs.Common.{ℕ, ◌≡◌, Bool, true, false, cond, ◌&&◌, List, [], ◌∷◌, ◌++◌, reverse, eqb, ltb}
use mathlib.Core.List.{reverse_aux}
use Rattle.cdf_unit_table.specs.States.{opens, complete}
use Rattle.cdf_unit_list.specs.Units.{after, parents_that, open_at, closing_at, state_of}
use Rattle.cdf_unit_list.specs.declared.Unit.{Unit}
use Rattle.cdf_unit_list.proofs.Nested.{Nested}
use Rattle.cdf_explain_spec.specs.Why.{kept_open, open_around}
use Rattle.cdf_explain_spec.specs.Claims.{Inwards, OneOf, here, there, Each}
use Rattle.cdf_explain_spec.proofs.Kept.{each_parent}

-- Each of the units surrounds the one before it.
abbrev pub Outwards : List Unit → Type 0
Outwards [] = record {}
Outwards (u ∷ us) = Nested u.start u.end us

pub outer_part : (front us : List Unit) (start end : ℕ) → Nested start end (front ++ us) → Outwards us
outer_part [] [] start end h = record {}
outer_part [] (u ∷ us) start end h = h.2
outer_part (f ∷ front) us start end h = outer_part front us f.start f.end h.2

turned_from : (us : List Unit) (v : Unit) (vs : List Unit) → Nested v.start v.end us → Inwards (v ∷ vs) → Inwards (reverse_aux us (v ∷ vs))
turned_from [] v vs h w = w
turned_from (u ∷ us) v vs h w = turned_from us u (v ∷ vs) h.2 (h.0, h.1, w)

pub turned : (us : List Unit) → Outwards us → Inwards (reverse us)
turned [] h = record {}
turned (u ∷ us) h = turned_from us u [] h (record {})

-- Membership, of the units as they are read and the other way round.
one_kept : {u : Unit} (xs acc : List Unit) → OneOf u acc → OneOf u (reverse_aux xs acc)
one_kept [] acc h = h
one_kept (x ∷ xs) acc h = one_kept xs (x ∷ acc) (there h)

pub one_turned : {u : Unit} {xs : List Unit} (acc : List Unit) → OneOf u xs → OneOf u (reverse_aux xs acc)
one_turned {u} acc (here {us = us}) = one_kept us (u ∷ acc) here
one_turned acc (there {v = v} h) = one_turned (v ∷ acc) h

-- What each of the units has, in other orders and of some of them.
each_more : (P Q : Unit → Type 0) → ((u : Unit) → P u → Q u) → (us : List Unit) → Each P us → Each Q us
each_more P Q f [] h = record {}
each_more P Q f (u ∷ us) h = (f u h.0, each_more P Q f us h.1)

each_turned : (P : Unit → Type 0) (us acc : List Unit) → Each P us → Each P acc → Each P (reverse_aux us acc)
each_turned P [] acc h g = g
each_turned P (u ∷ us) acc h g = each_turned P us (u ∷ acc) h.1 (h.0, g)

each_kept : (P : Unit → Type 0) (us cs : List Unit) → Each P cs → Each P (kept_open us cs)
unfolding kept_open
each_kept P us [] h = h
each_kept P us (c ∷ cs) h = go (complete (state_of us c)) (each_kept P us cs h.1)
  where
    go : (b : Bool) → Each P (kept_open us cs) → Each P (cond b (kept_open us cs) (c ∷ cs))
    go true g = g
    go false g = h

each_both : (P : Unit → Type 0) (us vs : List Unit) → Each P us → Each P vs → Each P (us ++ vs)
each_both P [] vs h g = g
each_both P (u ∷ us) vs h g = (h.0, each_both P us vs h.1 g)

-- What each listed unit that admits others has, each open unit has.
around_each : (P : Unit → Type 0) (us : List Unit) → ((f : Unit → Bool) → Each P (parents_that f us)) → Each P (open_around us)
unfolding open_around closing_at open_at
around_each P [] h = record {}
around_each P (u ∷ us) h =
    each_both P (kept_open (u ∷ us) (closing_at (after u) (u ∷ us))) (open_at (after u) (u ∷ us))
    (each_kept P (u ∷ us) (closing_at (after u) (u ∷ us)) (h (λ v. eqb v.end (after u)))) (h (λ v. ltb (after u) v.end))

pub around_opens : (us : List Unit) → Each (λ u. opens u.id ≡ true) (open_around us)
around_opens us = around_each (λ u. opens u.id ≡ true) us (λ f. each_parent f (λ u. opens u.id ≡ true) (λ u o e. o) us)

-- They are among the listed ones.
one_parent : (f : Unit → Bool) (us : List Unit) → Each (λ u. OneOf u us) (parents_that f us)
unfolding parents_that
one_parent f [] = record {}
one_parent f (u ∷ us) =
    go (opens u.id && f u) (each_more (λ v. OneOf v us) (λ v. OneOf v (u ∷ us)) (λ v h. there h) (parents_that f us) (one_parent f us))
  where
    go : (b : Bool) → Each (λ v. OneOf v (u ∷ us)) (parents_that f us) → Each (λ v. OneOf v (u ∷ us)) (cond b (u ∷ parents_that f us) (parents_that f us))
    go true h = (here, h)
    go false h = h

pub each_listed : (us : List Unit) → Each (λ u. OneOf u (reverse us)) (reverse (open_around us))
each_listed us =
    each_turned (λ u. OneOf u (reverse us)) (open_around us) []
    (each_more (λ u. OneOf u us) (λ u. OneOf u (reverse us)) (λ u h. one_turned [] h) (open_around us)
    (around_each (λ u. OneOf u us) us (λ f. one_parent f us))) (record {})
