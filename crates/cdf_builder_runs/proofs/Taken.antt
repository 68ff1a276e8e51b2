-- A request that no rule refuses, taken from what the place stands for.
use Rattle.std.proofs.Common.{ℕ, ◌≡◌, refl, sym, ◌∙◌, Bool, true, false, List, [], ◌∷◌, ◌++◌, append-nil, inl, inr}
use Rattle.std.proofs.lemmas.Bool.{false≢true}
use Rattle.cdf_unit_table.specs.States.{opens, nothing, admit}
use Rattle.cdf_unit_prefix.specs.Layout.{Layout, layout_of, id_at}
use Rattle.cdf_unit_prefix.specs.declared.Edition.{Edition}
use Rattle.cdf_grammar.specs.Trees.{none, tree, ids}
use Rattle.cdf_grammar.specs.Encoding.{encode, Item}
use Rattle.cdf_grammar.proofs.RowsAgree.{leaf_agrees}
use Rattle.cdf_grammar.proofs.Built.{encode_none, encode_tree}
use Rattle.cdf_builder_spec.specs.Place.{BuilderPlace}
use Rattle.cdf_builder_spec.specs.Requests.{Request, unit, group, id_of, bytes_for, joining, advanced, entering, grown, refused}
use Rattle.cdf_builder_spec.specs.declared.Begun.{Begun}
use Rattle.cdf_builder_spec.proofs.Joining.{Joins}
use Rattle.cdf_builder_spec.proofs.Replying.{grown_written, bytes_unit, entering_unit, entering_group}
use Rattle.cdf_builder_runs.specs.Runs.{Lent}
use Rattle.cdf_builder_runs.proofs.Spine.{Spine, shut_inner}
use Rattle.cdf_builder_runs.proofs.Adding.{Step, add_tree, add_open}
use Rattle.cdf_builder_runs.proofs.Passed.{UnitPassed, unit_passed, GroupPassed, group_passed}

-- The units inside the one that is joined have ended.
spine_joined : (l : Layout) (w : ℕ) (os : List Begun) (rs : List Request) (front : List ℕ) (id : ℕ) (j : Joins os id) → Spine l w os rs front →
    Spine l w (j.unit ∷ j.outer) rs front
spine_joined l w os rs front id j s = shut_inner l w j.inner (j.unit ∷ j.outer) rs front j.full (rw j.parts at s)

-- The bytes of a unit that has nothing in it.
pub unit_bytes : (l : Layout) (u : Item) → bytes_for l (unit u) ≡ encode l (tree u.id u.action u.text none none)
unit_bytes l u = bytes_unit l u ∙ sym (rw (encode_tree l u.id u.action u.text none none, encode_none l, append-nil))

pub bytes_group : (l : Layout) (g : List ℕ) → bytes_for l (group g) ≡ g
unfolding bytes_for
bytes_group l g = refl

opens_some : (id : ℕ) → opens id ≡ true → nothing id ≡ 0 → ⊥
unfolding opens
opens_some id o z = let f : false ≡ true = rw z at o in absurd (false≢true f)

-- The units that are open after a request which joins `o`.
pub grown_by : (l : Layout) (p : BuilderPlace) (r : Request) (o : Begun) (outer : List Begun) → joining (id_of l r) p.units ≡ o ∷ outer →
    (grown l p r).units ≡ entering p.written r ++ (record { state = admit o.state (id_of l r); start = o.start } ∷ outer)
unfolding grown advanced
grown_by l p r o outer j = rw j

module _ (l : Layout) (p : BuilderPlace) (o : Begun) (outer : List Begun) where
  abbrev had_by : ℕ → List Begun
  had_by id = record { state = admit o.state id; start = o.start } ∷ outer

  pub units_open : (u : Item) → opens u.id ≡ true → joining u.id p.units ≡ o ∷ outer →
      (grown l p (unit u)).units ≡ record { state = nothing u.id; start = p.written } ∷ had_by u.id
  unfolding id_of
  units_open u e j = grown_by l p (unit u) o outer j ∙ rw (entering_unit p.written u, e)

  units_leaf : (u : Item) → opens u.id ≡ false → joining u.id p.units ≡ o ∷ outer → (grown l p (unit u)).units ≡ had_by u.id
  unfolding id_of
  units_leaf u e j = grown_by l p (unit u) o outer j ∙ rw (entering_unit p.written u, e)

  pub units_group : (g : List ℕ) → joining (id_at l g) p.units ≡ o ∷ outer → (grown l p (group g)).units ≡ had_by (id_at l g)
  unfolding id_of
  units_group g j = grown_by l p (group g) o outer j ∙ rw (entering_group p.written g)

-- The step that a request comes to.
abbrev pub StepBy : Layout → BuilderPlace → List Request → List ℕ → Request → Type 0
StepBy l p rs front r = Step l p.written front (bytes_for l r) (grown l p r).written (grown l p r).units (rs ++ (r ∷ []))

module _ (l : Layout) (p : BuilderPlace) (rs : List Request) (front : List ℕ) (spine : Spine l p.written p.units rs front) where
  unit_step : (u : Item) → UnitPassed p.units u → (b : Bool) → opens u.id ≡ b → StepBy l p rs front (unit u)
  unfolding ids
  unit_step u w true o =
      let j = w.joins in
      let top = spine_joined l p.written p.units rs front u.id j spine in
      rw (grown_written, units_open l p j.unit j.outer u o j.joins, unit_bytes l u)
      (add_open l p.written j.unit j.outer rs front top u.id j.admitted (unit u) u.action u.text refl o
      (opens_some u.id o) w.acts w.says)
  unit_step u w false o =
      let j = w.joins in
      let top = spine_joined l p.written p.units rs front u.id j spine in
      rw (grown_written, units_leaf l p j.unit j.outer u o j.joins, unit_bytes l u)
      (add_tree l p.written j.unit j.outer rs front top u.id j.admitted (unit u) (tree u.id u.action u.text none none)
      refl (record { acts = w.acts; says = w.says; holds = (leaf_agrees u.id o []).1 refl }, record {}, record {})
      (inl ([], [], refl, refl, refl)))

  group_step : (g : List ℕ) → GroupPassed l p.units g → StepBy l p rs front (group g)
  unfolding ids
  group_step g w =
      let j = w.joins in
      let id = id_at l g in
      let top = spine_joined l p.written p.units rs front id j spine in
      let whole = tree id w.action w.text w.inner none in
      rw (grown_written, units_group l p j.unit j.outer g j.joins, bytes_group l g)
      (rw w.stream.bytes at (add_tree l p.written j.unit j.outer rs front top id j.admitted (group g) whole
      refl w.stream.tree.conforms (inr (g, [], refl, w.kind, w.stream, refl))))

-- A request that no rule refuses.
pub take_step : (e : Edition) (p : BuilderPlace) (rs : List Request) (front : List ℕ) → Spine (layout_of e) p.written p.units rs front →
    (r : Request) → Lent r → refused (layout_of e) p.units r 0 ≡ 0 → StepBy (layout_of e) p rs front r
take_step e p rs front spine (unit u) lent may =
    unit_step (layout_of e) p rs front spine u (unit_passed (layout_of e) p.units u may) (opens u.id) refl
take_step e p rs front spine (group g) lent may = group_step (layout_of e) p rs front spine g (group_passed e p.units g lent may)
