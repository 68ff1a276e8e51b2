-- What is claimed, by the cases of the answer.
use Rattle.std.proofs.Common.{ℕ, ◌≤◌, ◌<◌, ◌≡◌, refl, sym, subst, ◌∙◌, true, false, not, List, [], ◌∷◌, ◌++◌, ◌⊎◌, inl, inr, ◌↔◌, arith, eqb-true}
use Rattle.std.proofs.Common.{eq-eqb, ne_eqb, ltb-true, ltb-false, eqb, ltb, length, drop}
use Rattle.std.proofs.lemmas.Bool.{false≢true, eqb-false, not-true, not-false}
use mathlib.Core.Option.{Option, none, some}
use Rattle.cdf_unit_table.proofs.Bools.{of_cond}
use Rattle.cdf_unit_prefix.specs.Layout.{Layout}
use Rattle.cdf_unit_list.specs.Units.{listing}
use Rattle.cdf_unit_list.specs.Check.{check_of}
use Rattle.cdf_unit_list.specs.declared.Unit.{Unit}
use Rattle.cdf_grammar.specs.Claims.{Accepted}
use Rattle.cdf_lookup_spec.specs.Find.{first_that, is_group}
use Rattle.cdf_lookup_spec.specs.Chosen.{First, None, Grouped}
use Rattle.cdf_lookup_spec.proofs.Telling.{first_some, first_none}
use Rattle.cdf_lookup_spec.proofs.Choosing.{check_numbers}
use Rattle.cdf_lookup_spec.proofs.Deciding.{grouped, group_test}
use Rattle.cdf_resolve_spec.specs.Resolve.{unstored, is_doubled, is_lacking, count_that, ranks_of, refusal, refused_at, counted, resolved_of}
use Rattle.cdf_resolve_spec.specs.Resolve.{Resolved, list_after}
use Rattle.cdf_resolve_spec.specs.Words.{In, Count, Unstored, Doubled, Lacking, Ranks}
use Rattle.cdf_resolve_spec.specs.Claims.{Eligible}
use Rattle.cdf_resolve_spec.proofs.Saying.{first_in, count_is, is_count, unstored_tells, doubled_tells, lacking_tells, ranks_told}

-- None of these has a property that one of them has.
pub none_in : (P : Unit → Type 0) (us : List Unit) (u : Unit) → None P us → In u us → P u → ⊥
none_in P [] u n i p = i
none_in P (v ∷ us) u n (inl e) p = n.0 (subst P e p)
none_in P (v ∷ us) u n (inr i) p = none_in P us u n.1 i p

module _ (l : Layout) (s : List ℕ) where
  abbrev pub all : List Unit
  all = (listing l s).units

  abbrev templates : ℕ
  templates = count_that (unstored l s) all

  -- Neither is told of the group.
  abbrev pub Clean : Type 0
  Clean = (first_that (is_doubled l s) all ≡ none) × (first_that (is_lacking l s) all ≡ none)

  abbrev Sound : Type 0
  Sound = Accepted l s × (is_group all ≡ true) × (templates ≤ 256)

  module _ (room : ℕ) where
    -- What holds of each answer where it is given holds of the answer.
    record Cases (P : Resolved → Type 0) : Type 0 where
      checked : (Accepted l s → ⊥) → P (refusal (check_of l s).number (check_of l s).value)
      seven : Accepted l s → is_group all ≡ false → P (refusal 7 0)
      many : Accepted l s → is_group all ≡ true → 256 < templates → P (refusal 18 0)
      doubled : Sound → (t : Unit) → first_that (is_doubled l s) all ≡ some t → P (refusal 19 t.start)
      lacking : Sound → first_that (is_doubled l s) all ≡ none → (u : Unit) → first_that (is_lacking l s) all ≡ some u → P (refusal 20 u.start)
      short : Sound → Clean → room < length (ranks_of l s) → P (refusal 12 0)
      fine : Sound → Clean → length (ranks_of l s) ≤ room → P (record { number = 0; offset = 0; count = length (ranks_of l s) })

    met : (P : Resolved → Type 0) → Cases P → Sound → (d k : Option Unit) → first_that (is_doubled l s) all ≡ d → first_that (is_lacking l s) all ≡ k →
        P (refused_at 19 d (refused_at 20 k (counted (length (ranks_of l s)) room)))
    unfolding refused_at
    met P c w (some t) k e f = c.doubled w t e
    met P c w none (some u) e f = c.lacking w e u f
    met P c w none none e f =
        of_cond P (ltb room (length (ranks_of l s))) _ _ (λ x. c.short w (e, f) (ltb-true room _ x)) (λ x. c.fine w (e, f) (ltb-false room _ x))

    answered : (P : Resolved → Type 0) → Cases P → P (resolved_of l s room)
    unfolding resolved_of
    answered P c =
        of_cond P (not (eqb (check_of l s).number 0)) _ _
        (λ e. c.checked (eqb-false _ _ (not-true (eqb (check_of l s).number 0) e)))
        (λ e.
        let accepted = eqb-true _ _ (not-false (eqb (check_of l s).number 0) e) in
        of_cond P (not (is_group all)) _ _ (λ g. c.seven accepted (not-true (is_group all) g))
        (λ g.
        let group = not-false (is_group all) g in
        of_cond P (ltb 256 templates) _ _ (λ m. c.many accepted group (ltb-true 256 _ m))
        (λ m. met P c (accepted, group, ltb-false 256 _ m) _ _ refl refl)))

    pub check_first : (Accepted l s → ⊥) → resolved_of l s room ≡ refusal (check_of l s).number (check_of l s).value
    unfolding resolved_of
    check_first n = rw (ne_eqb (check_of l s).number 0 n)

    -- A number that the check does not have.
    not_checked : (n : ℕ) → (Accepted l s → ⊥) → (n ≡ 0) ⊎ (10 < n) → (check_of l s).number ≡ n → ⊥
    not_checked n a (inl z) e = a (e ∙ z)
    not_checked n a (inr z) e = omega (arith, check_numbers l s a, e)

    no_group : is_group all ≡ false → Grouped l s → ⊥
    no_group x g = false≢true (sym x ∙ group_test l s g)

    pub seven_is : Accepted l s → ((resolved_of l s room).number ≡ 7) ↔ (Grouped l s → ⊥)
    seven_is a = answered (λ r. (r.number ≡ 7) ↔ (Grouped l s → ⊥)) (record {
      checked = λ n. absurd (n a);
      seven = λ b g. ((λ z. no_group g), λ z. refl);
      many = λ b g h. ((λ z. absurd (omega arith)), λ n. absurd (n (grouped l s g)));
      doubled = λ w t e. ((λ z. absurd (omega arith)), λ n. absurd (n (grouped l s w.1)));
      lacking = λ w d u e. ((λ z. absurd (omega arith)), λ n. absurd (n (grouped l s w.1)));
      short = λ w c h. ((λ z. absurd (omega arith)), λ n. absurd (n (grouped l s w.1)));
      fine = λ w c h. ((λ z. absurd (omega arith)), λ n. absurd (n (grouped l s w.1)));
    })

    many_are : Accepted l s → Grouped l s → ((resolved_of l s room).number ≡ 18) ↔ (256 < templates)
    many_are a g = answered (λ r. (r.number ≡ 18) ↔ (256 < templates)) (record {
      checked = λ n. absurd (n a);
      seven = λ b x. absurd (no_group x g);
      many = λ b x h. ((λ z. h), λ z. refl);
      doubled = λ w t e. ((λ z. absurd (omega arith)), λ h. absurd (omega (arith, w.2)));
      lacking = λ w d u e. ((λ z. absurd (omega arith)), λ h. absurd (omega (arith, w.2)));
      short = λ w c x. ((λ z. absurd (omega arith)), λ h. absurd (omega (arith, w.2)));
      fine = λ w c x. ((λ z. absurd (omega arith)), λ h. absurd (omega (arith, w.2)));
    })

    pub many_is : Accepted l s → Grouped l s →
        (n : ℕ) × Count (Unstored l s) all n × (((resolved_of l s room).number ≡ 18) ↔ (256 < n))
    many_is a g = (templates, count_is (unstored l s) (Unstored l s) (unstored_tells l s) all, many_are a g)

    -- What is told of an eligible group: cases that are none of it are refuted.
    pub record Told (P : Resolved → Type 0) : Type 0 where
      pub doubled : (t : Unit) → first_that (is_doubled l s) all ≡ some t → P (refusal 19 t.start)
      pub lacking : first_that (is_doubled l s) all ≡ none → (u : Unit) → first_that (is_lacking l s) all ≡ some u → P (refusal 20 u.start)
      pub clean : Clean → (r : Resolved) → (r.number ≡ 0) ⊎ (r.number ≡ 12) → P r

    pub told : (P : Resolved → Type 0) → Eligible l s → Told P → P (resolved_of l s room)
    told P (a, g, (n, c, few)) w = answered P (record {
      checked = λ x. absurd (x a);
      seven = λ b x. absurd (no_group x g);
      many = λ b x h. absurd (omega (arith, is_count (unstored l s) (Unstored l s) (unstored_tells l s) c, few, h));
      doubled = λ x. w.doubled;
      lacking = λ x. w.lacking;
      short = λ x c h. w.clean c _ (inr refl);
      fine = λ x c h. w.clean c _ (inl refl);
    })

    pub first_doubled : (t : Unit) → first_that (is_doubled l s) all ≡ some t → First (Doubled l s) t all
    first_doubled t e = first_some (is_doubled l s) (Doubled l s) (doubled_tells l s) all t e

    pub no_doubled : first_that (is_doubled l s) all ≡ none → None (Doubled l s) all
    no_doubled e = first_none (is_doubled l s) (Doubled l s) (doubled_tells l s) all e

    pub first_lacking : (u : Unit) → first_that (is_lacking l s) all ≡ some u → First (Lacking l s) u all
    first_lacking u e = first_some (is_lacking l s) (Lacking l s) (lacking_tells l s) all u e

    no_lacking : first_that (is_lacking l s) all ≡ none → None (Lacking l s) all
    no_lacking e = first_none (is_lacking l s) (Lacking l s) (lacking_tells l s) all e

    abbrev SomeDoubled : Type 0
    SomeDoubled = (t : Unit) × In t all × Doubled l s t

    abbrev SomeLacking : Type 0
    SomeLacking = (u : Unit) × In u all × Lacking l s u

    -- 0 and 12 are neither.
    pub neither : (r : Resolved) (n : ℕ) → 12 < n → (r.number ≡ 0) ⊎ (r.number ≡ 12) → r.number ≡ n → ⊥
    neither r n h (inl x) e = omega arith
    neither r n h (inr x) e = omega arith

    pub nineteen_is : Eligible l s → ((resolved_of l s room).number ≡ 19) ↔ SomeDoubled
    nineteen_is eligible = told (λ r. (r.number ≡ 19) ↔ SomeDoubled) eligible (record {
      doubled = λ t e. let f = first_in (first_doubled t e) in ((λ z. (t, f.0, f.1)), λ z. refl);
      lacking = λ d u e. ((λ z. absurd (omega arith)), λ x. absurd (none_in (Doubled l s) all x.0 (no_doubled d) x.1 x.2));
      clean = λ c r is.
          ((λ z. absurd (neither r 19 (omega arith) is z)), λ x. absurd (none_in (Doubled l s) all x.0 (no_doubled c.0) x.1 x.2));
    })

    pub twenty_is : Eligible l s → ((resolved_of l s room).number ≡ 20) ↔ (None (Doubled l s) all × SomeLacking)
    twenty_is eligible = told (λ r. (r.number ≡ 20) ↔ (None (Doubled l s) all × SomeLacking)) eligible (record {
      doubled = λ t e.
          let f = first_in (first_doubled t e) in
          ((λ z. absurd (omega arith)), λ x. absurd (none_in (Doubled l s) all t x.0 f.0 f.1));
      lacking = λ d u e. let f = first_in (first_lacking u e) in ((λ z. (no_doubled d, (u, f.0, f.1))), λ z. refl);
      clean = λ c r is. (
        (λ z. absurd (neither r 20 (omega arith) is z)),
        λ x. absurd (none_in (Lacking l s) all x.1.0 (no_lacking c.1) x.1.1 x.1.2),
      );
    })

    pub doubled_first : (resolved_of l s room).number ≡ 19 → (t : Unit) × First (Doubled l s) t all × ((resolved_of l s room).offset ≡ t.start)
    doubled_first = answered (λ r. r.number ≡ 19 → (t : Unit) × First (Doubled l s) t all × (r.offset ≡ t.start)) (record {
      checked = λ n e. absurd (not_checked 19 n (inr (omega arith)) e);
      seven = λ b g e. absurd (omega arith);
      many = λ b g h e. absurd (omega arith);
      doubled = λ w t e z. (t, first_doubled t e, refl);
      lacking = λ w d u e z. absurd (omega arith);
      short = λ w c h z. absurd (omega arith);
      fine = λ w c h z. absurd (omega arith);
    })

    pub lacking_first : (resolved_of l s room).number ≡ 20 → (u : Unit) × First (Lacking l s) u all × ((resolved_of l s room).offset ≡ u.start)
    lacking_first = answered (λ r. r.number ≡ 20 → (u : Unit) × First (Lacking l s) u all × (r.offset ≡ u.start)) (record {
      checked = λ n e. absurd (not_checked 20 n (inr (omega arith)) e);
      seven = λ b g e. absurd (omega arith);
      many = λ b g h e. absurd (omega arith);
      doubled = λ w t e z. absurd (omega arith);
      lacking = λ w d u e z. (u, first_lacking u e, refl);
      short = λ w c h z. absurd (omega arith);
      fine = λ w c h z. absurd (omega arith);
    })

    pub offset_none : Accepted l s → ((resolved_of l s room).number ≡ 19 → ⊥) → ((resolved_of l s room).number ≡ 20 → ⊥) →
        (resolved_of l s room).offset ≡ 0
    offset_none a = answered (λ r. (r.number ≡ 19 → ⊥) → (r.number ≡ 20 → ⊥) → r.offset ≡ 0) (record {
      checked = λ n. absurd (n a);
      seven = λ b g x y. refl;
      many = λ b g h x y. refl;
      doubled = λ w t e x y. absurd (x refl);
      lacking = λ w d u e x y. absurd (y refl);
      short = λ w c h x y. refl;
      fine = λ w c h x y. refl;
    })

    ranks : Clean → Ranks l s all (ranks_of l s)
    unfolding ranks_of
    ranks c = ranks_told l s all c.1

    pub short_is : (resolved_of l s room).number ≡ 12 → (ns : List ℕ) × Ranks l s all ns × (room < length ns)
    short_is = answered (λ r. r.number ≡ 12 → (ns : List ℕ) × Ranks l s all ns × (room < length ns)) (record {
      checked = λ n e. absurd (not_checked 12 n (inr (omega arith)) e);
      seven = λ b g e. absurd (omega arith);
      many = λ b g h e. absurd (omega arith);
      doubled = λ w t e z. absurd (omega arith);
      lacking = λ w d u e z. absurd (omega arith);
      short = λ w c h z. (ranks_of l s, ranks c, h);
      fine = λ w c h z. absurd (omega arith);
    })

    pub none_counted : ((resolved_of l s room).number ≡ 0 → ⊥) → (resolved_of l s room).count ≡ 0
    none_counted = answered (λ r. (r.number ≡ 0 → ⊥) → r.count ≡ 0) (record {
      checked = λ n x. refl;
      seven = λ b g x. refl;
      many = λ b g h x. refl;
      doubled = λ w t e x. refl;
      lacking = λ w d u e x. refl;
      short = λ w c h x. refl;
      fine = λ w c h x. absurd (x refl);
    })

    pub zero_told : (resolved_of l s room).number ≡ 0 →
        Ranks l s all (ranks_of l s) × ((resolved_of l s room).count ≡ length (ranks_of l s)) × (length (ranks_of l s) ≤ room)
    zero_told = answered (λ r. r.number ≡ 0 → Ranks l s all (ranks_of l s) × (r.count ≡ length (ranks_of l s)) × (length (ranks_of l s) ≤ room)) (record {
      checked = λ n e. absurd (n e);
      seven = λ b g e. absurd (omega arith);
      many = λ b g h e. absurd (omega arith);
      doubled = λ w t e z. absurd (omega arith);
      lacking = λ w d u e z. absurd (omega arith);
      short = λ w c h z. absurd (omega arith);
      fine = λ w c h z. (ranks c, refl, h);
    })

  pub ranks_told_by : (list : List ℕ) → (resolved_of l s (length list)).number ≡ 0 →
      (ns : List ℕ) × Ranks l s all ns × ((resolved_of l s (length list)).count ≡ length ns)
      × (length ns ≤ length list) × (list_after l s list ≡ ns ++ drop (length ns) list)
  unfolding list_after
  ranks_told_by list e =
      let w = zero_told (length list) e in
      (ranks_of l s, w.0, w.1, w.2, rw (eq-eqb (resolved_of l s (length list)).number 0 e))

  pub list_stays : (list : List ℕ) → ((resolved_of l s (length list)).number ≡ 0 → ⊥) → list_after l s list ≡ list
  unfolding list_after
  list_stays list n = rw (ne_eqb (resolved_of l s (length list)).number 0 n)
