-- One more request in the innermost open unit: a whole tree, or a unit that stays open.
use Rattle.std.proofs.Common.{ℕ, ◌+◌, ◌≤◌, ◌≡◌, refl, sym, true, List, [], ◌∷◌, ◌++◌, append_assoc, append-nil, arith, length, drop, length-append}
use Rattle.cdf_unit_table.specs.States.{opens, nothing, admit}
use Rattle.cdf_unit_prefix.specs.Layout.{Layout, prefix_of}
use Rattle.cdf_grammar.specs.Trees.{Forest, none, tree, ids}
use Rattle.cdf_grammar.specs.Published.{Among, TextIs, production_of, Conforms}
use Rattle.cdf_grammar.specs.Encoding.{encode}
use Rattle.cdf_grammar.proofs.Fits.{through}
use Rattle.cdf_grammar.proofs.Built.{encode_none, encode_tree, length_unit}
use Rattle.cdf_builder_write.specs.Patch.{patch}
use Rattle.cdf_builder_spec.specs.Requests.{Request, unit}
use Rattle.cdf_builder_spec.specs.Calls.{lengths}
use Rattle.cdf_builder_spec.specs.declared.Begun.{Begun}
use Rattle.cdf_builder_runs.specs.Telling.{Tells}
use Rattle.cdf_builder_runs.proofs.Forests.{append, ids_append, encode_append, conforms_append}
use Rattle.cdf_builder_runs.proofs.Growing.{Frame, shut, size, size_one, heads, grow, grow_open}
use Rattle.cdf_builder_runs.proofs.Spine.{Held, Told, Spine, held_placed, held_more, told_more}

-- From `written` bytes, `front`, on: these bytes were added, so that `new` bytes are written and these units are open, after the
-- requests rs; and the buffer is what the builder writes.
pub record Step (l : Layout) (written : ℕ) (front added : List ℕ) (new : ℕ) (os : List Begun) (rs : List Request) : Type 0 where
  pub after : List ℕ
  pub spine : Spine l new os rs after
  pub writes : (back : List ℕ) → length added ≤ length back →
      lengths l new os (patch written added (front ++ back)) ≡ after ++ drop (length added) back

module _ (l : Layout) (written : ℕ) (o : Begun) (os : List Begun) (rs : List Request) (front : List ℕ)
    (spine : Spine l written (o ∷ os) rs front) (id : ℕ) (may : admit o.state id ≡ 0 → ⊥) (r : Request) where
  abbrev had : Begun
  had = record { state = admit o.state id; start = o.start }

  -- A whole tree.
  pub add_tree : (x : Forest) → ids x ≡ id ∷ [] → Conforms x → Tells l x (r ∷ []) →
      Step l written front (encode l x) (written + length (encode l x)) (had ∷ os) (rs ++ (r ∷ []))
  add_tree x root sound tells = go spine.frames spine.kids spine.held spine.conforms spine.told spine.ends spine.bytes
    where
      go : (fs : List Frame) (kids : Forest) → Held l fs kids (o ∷ os) → Conforms kids → Told l fs kids rs →
          written ≡ size l fs + length (encode l kids) → front ≡ heads l written fs ++ encode l kids →
          Step l written front (encode l x) (written + length (encode l x)) (had ∷ os) (rs ++ (r ∷ []))
      go [] kids h c t e b = absurd h
      go (f ∷ fs) kids h c t e b =
          let new = written + length (encode l x) in
          let held = held_more l f fs kids (append kids x) o os id may (rw (ids_append, root)) h in
          record {
            after = heads l new (f ∷ fs) ++ encode l (append kids x);
            spine = record {
              frames = f ∷ fs;
              kids = append kids x;
              held = held;
              conforms = conforms_append kids x c sound;
              told = told_more l (f ∷ fs) kids x rs (r ∷ []) tells t;
              ends = rw (encode_append, length-append) (omega arith);
              bytes = refl;
            };
            writes = λ back room.
                rw b (grow l written (f ∷ fs) (had ∷ os) kids (held_placed l (f ∷ fs) (append kids x) (had ∷ os) held) e back x room);
          }

  -- A unit that admits others stays open, with nothing in it.
  module _ (action : ℕ) (text : List ℕ) where
    abbrev leaf : Forest
    leaf = tree id action text none none

    abbrev opened : List Begun
    opened = record { state = nothing id; start = written } ∷ had ∷ os

    pub add_open : r ≡ unit (record { id = id; action = action; text = text }) → opens id ≡ true → (nothing id ≡ 0 → ⊥) →
        Among action (production_of id).actions → TextIs (production_of id).text text →
        Step l written front (encode l leaf) (written + length (encode l leaf)) opened (rs ++ (r ∷ []))
    unfolding ids through
    add_open is parent some acts says =
        go spine.frames spine.kids spine.held spine.conforms spine.told spine.ends spine.bytes
      where
        go : (fs : List Frame) (kids : Forest) → Held l fs kids (o ∷ os) → Conforms kids → Told l fs kids rs →
            written ≡ size l fs + length (encode l kids) → front ≡ heads l written fs ++ encode l kids →
            Step l written front (encode l leaf) (written + length (encode l leaf)) opened (rs ++ (r ∷ []))
        go [] kids h c t e b = absurd h
        go (f ∷ fs) kids h c t e b =
            let new = written + length (encode l leaf) in
            let g : Frame = record { before = kids; id = id; action = action; text = text } in
            let around = held_more l f fs kids (shut g none) o os id may (ids_append kids leaf) h in
            let long : length (encode l leaf) ≡ prefix_of l + (length text + 0) =
            rw (encode_tree l, encode_none, append-nil, length_unit l) in
            record {
              after = heads l new (g ∷ f ∷ fs) ++ encode l none;
              spine = record {
                frames = g ∷ f ∷ fs;
                kids = none;
                held = (
                  record { start = e; state = refl; some = some; parent = parent; acts = acts; says = says; before = c },
                  around,
                );
                conforms = record {};
                told = record {
                  outside = rs ++ (r ∷ []);
                  inside = [];
                  parts = sym (append-nil (rs ++ (r ∷ [])));
                  heads =
                      (t.outside, t.inside, rw (t.parts, is) (append_assoc t.outside t.inside (unit _ ∷ [])), t.heads, t.trees);
                  trees = refl;
                };
                ends = rw (size_one, encode_none) (omega arith);
                bytes = refl;
              };
              writes = λ back room.
                  rw b (grow_open l written (nothing id) g (f ∷ fs) (had ∷ os)
                  (held_placed l (f ∷ fs) (shut g none) (had ∷ os) around) e back new refl room);
            }
