-- Exactly the groups in which no template is doubled and each entity key has its one template are resolved.
use Rattle.std.proofs.Common.{ℕ, suc, ◌≤◌, ◌<◌, ◌≡◌, refl, sym, ap, ◌∙◌, Bool, true, false, List, [], ◌∷◌, ◌⊎◌, inl, inr, ◌↔◌, arith, ltb-true}
use Rattle.std.proofs.Common.{ltb-false, ltb}
use Rattle.cdf_unit_table.specs.Ids.{entity_key}
use Rattle.cdf_unit_prefix.specs.Layout.{Layout, layout_of}
use Rattle.cdf_unit_prefix.specs.declared.Edition.{Edition}
use Rattle.cdf_unit_list.specs.Units.{listing}
use Rattle.cdf_unit_list.specs.declared.Unit.{Unit}
use Rattle.cdf_grammar.specs.Encoding.{Bytes}
use Rattle.cdf_grammar.proofs.Proved.{proved}
use Rattle.cdf_lookup_spec.specs.Chosen.{None}
use Rattle.cdf_lookup_spec.proofs.Ordered.{Rising}
use Rattle.cdf_resolve_spec.specs.Resolve.{Resolved, is_lacking, refusal, resolved_of}
use Rattle.cdf_resolve_spec.specs.Words.{In, HasTemporary, Earlier, Doubled, MeansOne}
use Rattle.cdf_resolve_spec.specs.Claims.{Eligible}
use Rattle.cdf_resolve_spec.proofs.Pairing.{Orderly, orderly}
use Rattle.cdf_resolve_spec.proofs.Saying.{none_passes, first_in, has_one}
use Rattle.cdf_resolve_spec.proofs.Claiming.{none_in, told, first_doubled, no_doubled, first_lacking, neither}

-- Of units whose starts rise no two start at the same place.
starts_above : (a b : ℕ) (us : List Unit) (u : Unit) → Rising a b us → In u us → a ≤ u.start
starts_above a b [] u r i = absurd i
starts_above a b (v ∷ us) u r (inl e) = omega (arith, r.0, ap (λ (x : Unit). x.start) e)
starts_above a b (v ∷ us) u r (inr i) = omega (arith, r.0, starts_above (suc v.start) b us u r.1 i)

same_start : (a b : ℕ) (us : List Unit) (t v : Unit) → Rising a b us → In t us → In v us → t.start ≡ v.start → v ≡ t
same_start a b [] t v r i j e = absurd i
same_start a b (u ∷ us) t v r (inl i) (inl j) e = j ∙ sym i
same_start a b (u ∷ us) t v r (inl i) (inr j) e =
    absurd (omega (arith, starts_above (suc u.start) b us v r.1 j, ap (λ (x : Unit). x.start) i, e))
same_start a b (u ∷ us) t v r (inr i) (inl j) e =
    absurd (omega (arith, starts_above (suc u.start) b us t r.1 i, ap (λ (x : Unit). x.start) j, e))
same_start a b (u ∷ us) t v r (inr i) (inr j) e = same_start (suc u.start) b us t v r.1 i j e

module _ (l : Layout) (s : List ℕ) (o : Orderly l s) where
  -- Of two earlier templates with the name and the key of u the later is doubled.
  doubles : (u t v : Unit) (key : List ℕ) → In t (listing l s).units → Earlier l s u key t → Earlier l s u key v → t.start < v.start → Doubled l s v
  doubles u t v key i p q h =
      (key, (q.1.0.0, q.1.1), (t, i, (h, ((p.1.0.0, p.1.0.1 ∙ sym q.1.0.1), p.1.1))))

  one : (u : Unit) (key : List ℕ) → None (Doubled l s) (listing l s).units → ((t : Unit) × In t (listing l s).units × Earlier l s u key t) →
      MeansOne l s u key
  one u key n (t, i, p) = (t, i, p, λ v j q. go v j q (ltb t.start v.start) refl (ltb v.start t.start) refl)
    where
      go : (v : Unit) → In v (listing l s).units → Earlier l s u key v → (x : Bool) → ltb t.start v.start ≡ x → (y : Bool) →
          ltb v.start t.start ≡ y → v ≡ t
      go v j q true e y f =
          absurd (none_in (Doubled l s) (listing l s).units v n j (doubles u t v key i p q (ltb-true t.start v.start e)))
      go v j q false e true f =
          absurd (none_in (Doubled l s) (listing l s).units t n i (doubles u v t key j q p (ltb-true v.start t.start f)))
      go v j q false e false f =
          same_start 0 o.bound (listing l s).units t v o.rising i j
          (omega (arith, ltb-false t.start v.start e, ltb-false v.start t.start f))

abbrev Whole : Layout → List ℕ → Type 0
Whole l s =
    None (Doubled l s) (listing l s).units
    × ((u : Unit) (key : List ℕ) → In u (listing l s).units → HasTemporary l s entity_key key u → MeansOne l s u key)

module _ (e : Edition) (s : List ℕ) (room : ℕ) (bytes : Bytes s) (eligible : Eligible (layout_of e) s) where
  abbrev l : Layout
  l = layout_of e

  ordered : Orderly l s
  ordered = let tree = ((proved.streams e).exactly s bytes).0 eligible.0 in orderly e s tree.0 tree.1

  abbrev Fine : Resolved → Type 0
  Fine r = (r.number ≡ 0) ⊎ (r.number ≡ 12)

  pub exactly_is : Fine (resolved_of l s room) ↔ Whole l s
  exactly_is = told l s room (λ r. Fine r ↔ Whole l s) eligible (record {
    doubled = λ t d.
        let f = first_in (first_doubled l s room t d) in (
          (λ z. absurd (neither l s room (refusal 19 t.start) 19 (omega arith) z refl)),
          λ w. absurd (none_in (Doubled l s) (listing l s).units t w.0 f.0 f.1),
        );
    lacking = λ d u k.
        let f = first_in (first_lacking l s room u k) in (
          (λ z. absurd (neither l s room (refusal 20 u.start) 20 (omega arith) z refl)),
          λ w. let m = w.1 u f.1.0 f.0 f.1.1 in absurd (f.1.2 m.0 m.1 m.2),
        );
    clean = λ c r is. (
      (λ z. (
        no_doubled l s room c.0,
        λ u key i h.
            one l s ordered u key (no_doubled l s room c.0)
            (has_one l s u key h (none_passes (is_lacking l s) (listing l s).units u c.1 i)),
      )),
      λ w. is,
    );
  })
