-- The law of ranks: how many listed units stand directly in each open one, step by step. Closing needs no law of it: in what is left it is
-- one above the rank of the outermost unit that closed, as `Counted` says.
use Rattle.std.proofs.Common.{◌≡◌, refl, sym, ◌∙◌, Bool, false, true, cond, List, [], ◌∷◌, map, ℕ, suc, ◌-◌, arith, eq-eqb, ne_eqb, eqb, length, take}
use Rattle.std.proofs.Common.{drop}
use Rattle.std.proofs.lemmas.Bool.{false≢true}
use Rattle.std.proofs.lemmas.List.{length-map}
use Rattle.cdf_unit_table.specs.States.{opens}
use Rattle.cdf_unit_table.proofs.Rows.{admits_root, root_kind_lem, opens_by}
use Rattle.cdf_unit_prefix.specs.Layout.{Layout}
use Rattle.cdf_unit_judge.specs.Judge.{judge_of, Judged, Fault, Found}
use Rattle.cdf_unit_judge.proofs.Placed.{placed}
use Rattle.cdf_unit_list.specs.Units.{open_at, inside, parents_that, state_of, Next}
use Rattle.cdf_unit_list.specs.Ranks.{rank_in}
use Rattle.cdf_unit_list.specs.Stack.{Closing, incomplete, left, close, Step, done, refused, found, opened, entered, with_state}
use Rattle.cdf_unit_list.specs.Stack.{step_in, step, step_by, step_in_by}
use Rattle.cdf_unit_list.specs.declared.Unit.{Unit}
use Rattle.cdf_unit_list.specs.declared.Open.{Open}
use Rattle.cdf_unit_list.proofs.Nested.{Nested, narrow}
use Rattle.cdf_unit_list.proofs.StatesListed.{open_of, Before, new_inside, inner_inside, outer_inside}
use Rattle.cdf_unit_list.proofs.Closing.{Closes, stops, leaves, closes}
use Rattle.cdf_unit_list.proofs.Entering.{Follow, unit_from}

-- Of the listed units, how many stand directly in each open one (the innermost first, with their ranks): in the innermost `r`, in each other one
-- above the rank of the next one inwards.
abbrev pub Counted : List Unit → List Open → List ℕ → ℕ → Type 0
Counted us [] ks r = ks ≡ []
Counted us (o ∷ os) [] r = ⊥
Counted us (o ∷ os) (k ∷ ks) r = (length (inside o.start us) ≡ r) × Counted us os ks (suc k)

-- The innermost unit is one that starts there, or not.
abbrev pub Innermost : Bool → ℕ → List Open → Type 0
Innermost b at [] = ⊥
Innermost b at (o ∷ os) = eqb o.start at ≡ b

-- A unit that is listed after `us`, where `os` are open after it: `ks` are the ranks of those around it and r is due in the innermost of them. r is
-- its rank; of its children none has come yet, if it admits any, and else one above r is due.
pub record Counts (us : List Unit) (ks : List ℕ) (r : ℕ) (v : Unit) (os : List Open) : Type 0 where
  pub rank : rank_in us (open_at v.start us) ≡ r
  pub depth : cond (opens v.id) (length os) (suc (length os)) ≡ suc (length (open_at v.start us))
  pub innermost : Innermost (opens v.id) v.start os
  pub counted : Counted (v ∷ us) os (cond (opens v.id) (r ∷ ks) ks) (cond (opens v.id) 0 (suc r))

-- The same of a step, which finds a unit or none.
abbrev pub CountsOn : List Unit → List ℕ → ℕ → Step → Type 0
CountsOn us ks r done = record {}
CountsOn us ks r (refused n at) = record {}
CountsOn us ks r (found v os pos) = Counts us ks r v os

-- What closing leaves has these ranks.
abbrev pub CountedLeft : List Unit → List ℕ → ℕ → Closing → Type 0
CountedLeft us ks r (incomplete at) = record {}
CountedLeft us ks r (left os) = Counted us os ks r

-- The unit takes its place in front of those around it, if it admits others.
counts_opened : (us : List Unit) (ks : List ℕ) (r : ℕ) (v : Unit) (around : List Open) → Before v.start us →
    rank_in us (open_at v.start us) ≡ r → length around ≡ length (open_at v.start us) →
    (opens v.id ≡ false → Innermost false v.start around) → Counted (v ∷ us) around ks (suc r) →
    Counts us ks r v (opened v around)
unfolding opened
counts_opened us ks r v around before rank few leaf counted = go (opens v.id) refl
  where
    none : length (inside v.start (v ∷ us)) ≡ 0
    none = rw (new_inside v us before)

    go : (b : Bool) → opens v.id ≡ b → Counts us ks r v (opened v around)
    go true e = record {
      rank = rank;
      depth = rw (e, few);
      innermost = rw e (eq-eqb v.start v.start refl);
      counted = rw e (none, counted);
    }
    go false e = record { rank = rank; depth = rw (e, few); innermost = rw e (leaf e); counted = rw e counted }

module _ (v : Unit) (us : List Unit) (o : Unit) (ws : List Unit) (e : open_at v.start us ≡ o ∷ ws) where
  -- Those around the innermost unit have as many as before, whatever states (of the units `all`) they are told with,
  outer_counted : (all xs : List Unit) (end : ℕ) → Nested o.start end xs → (ks : List ℕ) (r : ℕ) → Counted us (map (open_of all) xs) ks r →
      Counted (v ∷ us) (map (open_of all) xs) ks r
  outer_counted all [] end h ks r c = c
  outer_counted all (w ∷ xs) end h [] r c = c
  outer_counted all (w ∷ xs) end h (k ∷ ks) r c =
      let rest = narrow xs w.start w.end o.start w.end (omega arith) (omega arith) h.2 in
      (rw (outer_inside v us o ws e w h.0) c.0, outer_counted all xs w.end rest ks (suc k) c.1)

  -- and the innermost one more.
  pub inner_counted : (all : List Unit) (end : ℕ) → Nested o.start end ws → (ks : List ℕ) (r : ℕ) → Counted us (map (open_of all) (o ∷ ws)) ks r →
      Counted (v ∷ us) (map (open_of all) (o ∷ ws)) ks (suc r)
  inner_counted all end h [] r c = c
  inner_counted all end h (k ∷ ks) r c =
      (rw (inner_inside v us o ws e, c.0), outer_counted all ws end h ks (suc k) c.1)

-- A unit in the innermost one has the rank that is due.
pub rank_due : (all us : List Unit) (o : Unit) (ws : List Unit) (ks : List ℕ) (r : ℕ) → Counted us (map (open_of all) (o ∷ ws)) ks r →
    rank_in us (o ∷ ws) ≡ r
unfolding rank_in
rank_due all us o ws [] r c = absurd c
rank_due all us o ws (k ∷ ks) r c = c.0

module _ (l : Layout) (s : List ℕ) where
  -- A unit in the innermost of those that closing leaves.
  pub within_counts : (us : List Unit) (pos : ℕ) → Before pos us → (ws : List Unit) → open_at pos us ≡ ws → Nested pos (suc pos) ws →
      (ks : List ℕ) (r : ℕ) → Counted us (map (open_of us) ws) ks r → CountsOn us ks r (step_in l s pos (left (map (open_of us) ws)))
  unfolding step_in_by with_state entered
  within_counts us pos before [] e h ks r c = record {}
  within_counts us pos before (o ∷ ws) e h ks r c = go (judge_of l false (state_of us o) (take (o.end - pos) (drop pos s)))
    where
      go : (j : Judged) → CountsOn us ks r (entered pos (λ state. with_state (open_of us o) state ∷ map (open_of us) ws) j)
      go (Fault n k) = record {}
      go (Found id action own len state) =
          let v = unit_from pos id action own len in
          counts_opened us ks r v (with_state (open_of us o) state ∷ map (open_of us) ws) before
          (rw e (rank_due us us o ws ks r c)) (rw (e, length-map ws (open_of us)))
          (λ x. ne_eqb o.start pos (λ q. omega arith)) (inner_counted v us o ws e us o.end h.2 ks r c)

  -- A step from units that follow the list, if those that closing leaves have these ranks.
  pub next_counts : (us : List Unit) (os : List Open) (pos : ℕ) → Follow us os pos → (ks : List ℕ) (r : ℕ) →
      CountedLeft us ks r (close os pos) → CountsOn us ks r (step l s os pos)
  unfolding step_by step_in_by
  next_counts us os pos f ks r c = rw f.stack (go (closes us pos us f.nested) (rw f.stack at c))
    where
      go : {n : Next} {x : Closing} → Closes us pos (open_at pos us) n x → CountedLeft us ks r x → CountsOn us ks r (step_in l s pos x)
      go stops c = record {}
      go (leaves h) c = within_counts us pos f.before (open_at pos us) refl h ks r c

  -- The first unit is the root: it has rank 0, and admits others.
  pub first_counts : CountsOn [] [] 0 (entered 0 (λ state. []) (judge_of l true 0 s))
  unfolding entered open_at parents_that rank_in
  first_counts = go (judge_of l true 0 s) refl
    where
      go : (j : Judged) → judge_of l true 0 s ≡ j → CountsOn [] [] 0 (entered 0 (λ state. []) j)
      go (Fault n k) e = record {}
      go (Found id action own len next) e =
          let p = placed l true 0 s e in
          let kind = root_kind_lem 0 id (λ z. p.some (sym p.may ∙ z)) in
          let parent = opens_by id next (sym p.may ∙ admits_root 0 id kind) p.some in
          counts_opened [] [] 0 (unit_from 0 id action own len) [] (record {}) refl refl (λ x. absurd (false≢true (sym x ∙ parent))) refl
