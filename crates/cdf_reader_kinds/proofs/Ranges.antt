-- The kinds of two to four open units, by the ranges of their states.
use Rattle.std.proofs.Common.{ℕ, ◌≤◌, ◌<◌, ◌≡◌, refl, sym, ◌∙◌, Bool, true, false, cond, ◌&&◌, arith, leb-true, le-leb, leb}
use Rattle.std.proofs.lemmas.Bool.{lt-leb}
use mathlib.Core.Bool.{and-false, and-true}
use Rattle.cdf_unit_table.specs.States.{unit_of, root_kind, admits_kind, stream_new, stream_skipped, er_new, er_skipped, file_skipped}
use Rattle.cdf_unit_table.specs.States.{call_skipped, template_new, relation_new, ordered_skipped, entity_new, entity_skipped}
use Rattle.cdf_unit_table.proofs.Bools.{both}
use Rattle.cdf_unit_nesting.proofs.Nesting.{root_is, nests_by, nests_is}

-- A state in a range; what that says of another range.
abbrev In : ℕ → ℕ → ℕ → Bool
In from to x = leb from x && leb x to

bounds : (from to x : ℕ) → In from to x ≡ true → (from ≤ x) × (x ≤ to)
bounds from to x e = let w = both (leb from x) (leb x to) e in (leb-true from x w.0, leb-true x to w.1)

lies : (from to x : ℕ) → from ≤ x → x ≤ to → In from to x ≡ true
lies from to x h k = rw (le-leb from x h, le-leb x to k)

below : (from to x : ℕ) → x < from → In from to x ≡ false
below from to x h = rw (lt-leb from x h)

above : (from to x : ℕ) → to < x → In from to x ≡ false
above from to x h = rw (lt-leb x to h) (and-false (leb from x))

abbrev stream : ℕ → Bool
stream = In stream_new stream_skipped

abbrev group : ℕ → Bool
group = In er_new er_skipped

abbrev relation : ℕ → Bool
relation = In relation_new ordered_skipped

abbrev entity : ℕ → Bool
entity = In entity_new entity_skipped

-- What a stream and a group admit, and what may be a root.
abbrev in_stream : ℕ → Bool
in_stream = In er_new call_skipped

abbrev in_group : ℕ → Bool
in_group = In template_new ordered_skipped

abbrev root : ℕ → Bool
root = In stream_new file_skipped

pair : (a b : ℕ) → (nests_by a b && root a) ≡ cond (group a) (in_group b) (stream a && in_stream b)
unfolding nests_by
pair a b = go (group a) refl (stream a) refl (relation a) refl
  where
    go : (g : Bool) → group a ≡ g → (s : Bool) → stream a ≡ s → (r : Bool) → relation a ≡ r →
        (cond g (in_group b) (cond s (in_stream b) (cond r (entity b) false)) && root a) ≡ cond g (in_group b) (s && in_stream b)
    go true g s _ r _ =
        let h = bounds er_new er_skipped a g in
        rw (lies stream_new file_skipped a (omega (arith, h)) (omega (arith, h))) (and-true (in_group b))
    go false _ true s r _ =
        let h = bounds stream_new stream_skipped a s in
        rw (lies stream_new file_skipped a (omega (arith, h)) (omega (arith, h))) (and-true (in_stream b))
    go false _ false _ true r =
        let h = bounds relation_new ordered_skipped a r in
        rw (above stream_new file_skipped a (omega (arith, h))) (and-false (entity b))
    go false _ false _ false _ = refl

swapped : (a b : Bool) → (a && (b && true)) ≡ (b && a)
swapped true true = refl
swapped true false = refl
swapped false true = refl
swapped false false = refl

none : (a b : Bool) → (a && (b && false)) ≡ false
none true true = refl
none true false = refl
none false b = refl

triple : (a b c : ℕ) →
    (nests_by b c && cond (group a) (in_group b) (stream a && in_stream b))
    ≡ cond (group b) (stream a && in_group c) (group a && (relation b && entity c))
unfolding nests_by
triple a b c = go (group b) refl (stream b) refl (relation b) refl (group a) refl
  where
    go : (g : Bool) → group b ≡ g → (s : Bool) → stream b ≡ s → (r : Bool) → relation b ≡ r → (o : Bool) → group a ≡ o →
        (cond g (in_group c) (cond s (in_stream c) (cond r (entity c) false)) && cond o (in_group b) (stream a && in_stream b))
        ≡ cond g (stream a && in_group c) (o && (r && entity c))
    go true g s _ r _ true o =
        let h = bounds er_new er_skipped b g in
        let k = bounds er_new er_skipped a o in
        rw (below template_new ordered_skipped b (omega (arith, h)), above stream_new stream_skipped a (omega (arith, k)))
        (and-false (in_group c))
    go true g s _ r _ false _ =
        let h = bounds er_new er_skipped b g in
        rw (lies er_new call_skipped b (omega (arith, h)) (omega (arith, h))) (swapped (in_group c) (stream a))
    go false _ s e true r true _ =
        let h = bounds relation_new ordered_skipped b r in
        rw (
          sym e ∙ above stream_new stream_skipped b (omega (arith, h)),
          lies template_new ordered_skipped b (omega (arith, h)) (omega (arith, h)),
        ) (and-true (entity c))
    go false _ true s false _ true _ =
        let h = bounds stream_new stream_skipped b s in
        rw (below template_new ordered_skipped b (omega (arith, h))) (and-false (in_stream c))
    go false _ false _ false _ true _ = refl
    go false _ true s r _ false _ =
        let h = bounds stream_new stream_skipped b s in
        rw (below er_new call_skipped b (omega (arith, h))) (none (in_stream c) (stream a))
    go false _ false _ true r false _ =
        let h = bounds relation_new ordered_skipped b r in
        rw (above er_new call_skipped b (omega (arith, h))) (none (entity c) (stream a))
    go false _ false _ false _ false _ = refl

fourfold : (a b c d : ℕ) →
    (nests_by c d && cond (group b) (stream a && in_group c) (group a && (relation b && entity c)))
    ≡ (stream a && (group b && (relation c && entity d)))
unfolding nests_by
fourfold a b c d = go (group b) refl (group c) refl (stream c) refl (relation c) refl (entity c) refl
  where
    go : (g : Bool) → group b ≡ g → (k : Bool) → group c ≡ k → (s : Bool) → stream c ≡ s → (r : Bool) → relation c ≡ r →
        (e : Bool) → entity c ≡ e →
        (cond k (in_group d) (cond s (in_stream d) (cond r (entity d) false)) && cond g (stream a && in_group c) (group a && (relation b && e)))
        ≡ (stream a && (g && (r && entity d)))
    go true _ k x s y true r e _ =
        let h = bounds relation_new ordered_skipped c r in
        rw (
          sym x ∙ above er_new er_skipped c (omega (arith, h)),
          sym y ∙ above stream_new stream_skipped c (omega (arith, h)),
          lies template_new ordered_skipped c (omega (arith, h)) (omega (arith, h)),
        ) (swapped (entity d) (stream a))
    go true _ true k s _ false _ e _ =
        let h = bounds er_new er_skipped c k in
        rw (below template_new ordered_skipped c (omega (arith, h))) (none (in_group d) (stream a) ∙ sym (and-false (stream a)))
    go true _ false _ true s false _ e _ =
        let h = bounds stream_new stream_skipped c s in
        rw (below template_new ordered_skipped c (omega (arith, h))) (none (in_stream d) (stream a) ∙ sym (and-false (stream a)))
    go true _ false _ false _ false _ e _ = sym (and-false (stream a))
    go false _ k x s y r z true e =
        let h = bounds entity_new entity_skipped c e in
        rw (
          sym x ∙ above er_new er_skipped c (omega (arith, h)),
          sym y ∙ above stream_new stream_skipped c (omega (arith, h)),
          sym z ∙ above relation_new ordered_skipped c (omega (arith, h)),
        ) (sym (and-false (stream a)))
    go false _ k _ s _ r _ false _ =
        rw (and-false (relation b), and-false (group a))
        (and-false (cond k (in_group d) (cond s (in_stream d) (cond r (entity d) false))) ∙ sym (and-false (stream a)))

-- The same in the terms of the format.
pub pair_is : (a b : ℕ) →
    cond (group a) (in_group b) (stream a && in_stream b) ≡ (admits_kind (unit_of a) (unit_of b) && root_kind (unit_of a))
pair_is a b = sym (rw (← nests_is a b, ← root_is a) (pair a b))

pub triple_is : (a b c : ℕ) →
    cond (group b) (stream a && in_group c) (group a && (relation b && entity c))
    ≡ (admits_kind (unit_of b) (unit_of c) && (admits_kind (unit_of a) (unit_of b) && root_kind (unit_of a)))
triple_is a b c = sym (rw (← nests_is b c, ← pair_is a b) (triple a b c))

pub fourfold_is : (a b c d : ℕ) →
    (stream a && (group b && (relation c && entity d)))
    ≡ (admits_kind (unit_of c) (unit_of d)
    && (admits_kind (unit_of b) (unit_of c) && (admits_kind (unit_of a) (unit_of b) && root_kind (unit_of a))))
fourfold_is a b c d = sym (rw (← nests_is c d, ← triple_is a b c) (fourfold a b c d))
