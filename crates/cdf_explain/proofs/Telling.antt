-- What is told from the open units of the list, and from the stack that follows them.
use Rattle.std.proofs.Common.{ℕ, suc, ◌≡◌, refl, ap, sym, ◌∙◌, true, List, [], ◌∷◌, map, reverse, arith, ne_eqb, length}
use Rattle.std.proofs.lemmas.List.{length-map, length-reverse}
use mathlib.Core.List.{reverse_aux}
use Rattle.cdf_unit_table.specs.States.{opens, unit_of}
use Rattle.cdf_unit_list.specs.declared.Unit.{Unit}
use Rattle.cdf_unit_list.specs.declared.Open.{Open}
use Rattle.cdf_unit_list.proofs.StatesListed.{open_of}
use Rattle.cdf_reader_spec.proofs.Fitting.{States}
use Rattle.cdf_explain_spec.specs.Why.{admitted_by}
use Rattle.cdf_explain_spec.specs.Claims.{Each}
use Rattle.cdf_explain_spec.proofs.Ids.{same_ids}
use Rattle.cdf_explain.specs.Numbers.{explained_by}
use Rattle.cdf_explain.specs.Parts.{ids_at, innermost, told_at}

map_turned : {A B : Type 0} (f : A → B) (xs acc : List A) → map f (reverse_aux xs acc) ≡ reverse_aux (map f xs) (map f acc)
map_turned f [] acc = refl
map_turned f (x ∷ xs) acc = map_turned f xs (x ∷ acc)

same_starts : (us ws : List Unit) → map (λ (o : Open). o.start) (map (open_of us) ws) ≡ map (λ (u : Unit). u.start) ws
same_starts us [] = refl
same_starts us (w ∷ ws) = ap (λ xs. w.start ∷ xs) (same_starts us ws)

-- The same of the units turned round.
turned : (f : Unit → ℕ) (g : Open → ℕ) (us ws : List Unit) → map g (map (open_of us) ws) ≡ map f ws →
    map f (reverse ws) ≡ map g (reverse (map (open_of us) ws))
turned f g us ws e = map_turned f ws [] ∙ ap reverse (sym e) ∙ sym (map_turned g (map (open_of us) ws) [])

same_choices : (us ws : List Unit) → admitted_by us ws ≡ ids_at (length (map (open_of us) ws)) (innermost (map (open_of us) ws))
unfolding admitted_by
same_choices us [] = refl
same_choices us (w ∷ ws) = rw (ne_eqb (suc (length (map (open_of us) ws))) 0 (λ z. omega arith))

pub told_why : (us ws : List Unit) → Each (λ w. opens w.id ≡ true) ws → States (map (open_of us) ws) → (number offset : ℕ) →
    explained_by (record { number = number; offset = offset; units = reverse ws; ids = admitted_by us ws })
    ≡ told_at number offset (map (open_of us) ws)
unfolding explained_by told_at
told_why us ws o h number offset =
    rw (
      turned (λ u. u.id) (λ o. unit_of o.state) us ws (same_ids us ws o h),
      turned (λ u. u.start) (λ o. o.start) us ws (same_starts us ws),
      same_choices us ws,
      length-reverse ws,
      length-map ws (open_of us),
    )
