-- What the builder's place and the front of the buffer stand for: open units with the trees that are whole, and the requests
-- that told of them.
use Rattle.std.proofs.Common.{ℕ, ◌+◌, ◌≡◌, refl, sym, ◌∙◌, true, List, [], ◌∷◌, ◌++◌, append_assoc, append-nil, inl, length}
use Rattle.cdf_unit_table.specs.States.{opens, nothing, admit, complete, root_kind}
use Rattle.cdf_unit_table.proofs.Bools.{both}
use Rattle.cdf_unit_prefix.specs.Layout.{Layout}
use Rattle.cdf_grammar.specs.Trees.{Forest, none, tree, ids}
use Rattle.cdf_grammar.specs.Published.{Among, TextIs, production_of, Conforms}
use Rattle.cdf_grammar.specs.Encoding.{encode, Item}
use Rattle.cdf_grammar.proofs.Fits.{through}
use Rattle.cdf_grammar.proofs.RowsAgree.{content_agrees}
use Rattle.cdf_builder_spec.specs.Requests.{Request, unit, completed}
use Rattle.cdf_builder_spec.specs.declared.Begun.{Begun}
use Rattle.cdf_builder_runs.specs.Telling.{Tells}
use Rattle.cdf_builder_runs.proofs.Forests.{append, ids_append, conforms_append, tells_append}
use Rattle.cdf_builder_runs.proofs.Growing.{Frame, shut, start_in, size, heads, Placed, shut_one}

-- An open unit inside those of fs, with these trees in it.
pub record HeldUnit (l : Layout) (fs : List Frame) (f : Frame) (kids : Forest) (o : Begun) : Type 0 where
  pub start : o.start ≡ start_in l fs f
  pub state : o.state ≡ through (nothing f.id) (ids kids)
  pub some : o.state ≡ 0 → ⊥
  pub parent : opens f.id ≡ true
  pub acts : Among f.action (production_of f.id).actions
  pub says : TextIs (production_of f.id).text f.text
  pub before : Conforms f.before

-- All of them, the innermost first; around them there is one root.
abbrev pub Held : Layout → List Frame → Forest → List Begun → Type 0
Held l [] kids [] = (id : ℕ) × (ids kids ≡ id ∷ []) × (root_kind id ≡ true)
Held l [] kids (o ∷ os) = ⊥
Held l (f ∷ fs) kids [] = ⊥
Held l (f ∷ fs) kids (o ∷ os) = HeldUnit l fs f kids o × Held l fs (shut f kids) os

-- The requests for open units and for the whole trees before each.
abbrev pub ToldHeads : Layout → List Frame → List Request → Type 0
ToldHeads l [] rs = rs ≡ []
ToldHeads l (f ∷ fs) rs =
    (xs : List Request) × (ys : List Request)
    × (rs ≡ xs ++ (ys ++ (unit (record { id = f.id; action = f.action; text = f.text }) ∷ [])))
    × ToldHeads l fs xs × Tells l f.before ys

pub record Told (l : Layout) (fs : List Frame) (kids : Forest) (rs : List Request) : Type 0 where
  pub outside : List Request
  pub inside : List Request
  pub parts : rs ≡ outside ++ inside
  pub heads : ToldHeads l fs outside
  pub trees : Tells l kids inside

-- After these requests so many bytes are written, these units are open, and the buffer's front is this.
pub record Spine (l : Layout) (written : ℕ) (os : List Begun) (rs : List Request) (front : List ℕ) : Type 0 where
  pub frames : List Frame
  pub kids : Forest
  pub held : Held l frames kids os
  pub conforms : Conforms kids
  pub told : Told l frames kids rs
  pub ends : written ≡ size l frames + length (encode l kids)
  pub bytes : front ≡ heads l written frames ++ encode l kids

pub held_placed : (l : Layout) (fs : List Frame) (kids : Forest) (os : List Begun) → Held l fs kids os → Placed l fs os
held_placed l [] kids [] h = record {}
held_placed l [] kids (o ∷ os) h = absurd h
held_placed l (f ∷ fs) kids [] h = absurd h
held_placed l (f ∷ fs) kids (o ∷ os) (u, around) = (u.start, held_placed l fs (shut f kids) os around)

pub ids_shut : (f : Frame) (kids : Forest) → ids (shut f kids) ≡ ids f.before ++ (f.id ∷ [])
unfolding ids
ids_shut f kids = ids_append f.before (tree f.id f.action f.text kids none)

-- Only the ids of what a unit has had matter to the units around it.
pub held_ids : (l : Layout) (fs : List Frame) (k j : Forest) (os : List Begun) → ids k ≡ ids j → Held l fs k os → Held l fs j os
held_ids l [] k j [] e (id, root, kind) = (id, sym e ∙ root, kind)
held_ids l [] k j (o ∷ os) e h = absurd h
held_ids l (f ∷ fs) k j [] e h = absurd h
held_ids l (f ∷ fs) k j (o ∷ os) e (u, around) = (
  record {
    start = u.start;
    state = rw (← e) u.state;
    some = u.some;
    parent = u.parent;
    acts = u.acts;
    says = u.says;
    before = u.before;
  },
  held_ids l fs (shut f k) (shut f j) os (ids_shut f k ∙ sym (ids_shut f j)) around,
)

through_last : (state : ℕ) (cs : List ℕ) (id : ℕ) → through state (cs ++ (id ∷ [])) ≡ admit (through state cs) id
unfolding through
through_last state [] id = refl
through_last state (c ∷ cs) id = through_last (admit state c) cs id

-- The innermost unit has had one more.
pub held_more : (l : Layout) (f : Frame) (fs : List Frame) (kids more : Forest) (o : Begun) (os : List Begun) (id : ℕ) →
    (admit o.state id ≡ 0 → ⊥) → ids more ≡ ids kids ++ (id ∷ []) → Held l (f ∷ fs) kids (o ∷ os) →
    Held l (f ∷ fs) more (record { state = admit o.state id; start = o.start } ∷ os)
held_more l f fs kids more o os id some e (u, around) = (
  record {
    start = u.start;
    state = rw (e, through_last, ← u.state);
    some = some;
    parent = u.parent;
    acts = u.acts;
    says = u.says;
    before = u.before;
  },
  held_ids l fs (shut f kids) (shut f more) os (ids_shut f kids ∙ sym (ids_shut f more)) around,
)

-- The innermost unit has these trees more, and these requests told of them.
pub told_more : (l : Layout) (fs : List Frame) (kids x : Forest) (rs more : List Request) → Tells l x more → Told l fs kids rs →
    Told l fs (append kids x) (rs ++ more)
told_more l fs kids x rs more tells t = record {
  outside = t.outside;
  inside = t.inside ++ more;
  parts = rw t.parts (append_assoc t.outside t.inside more);
  heads = t.heads;
  trees = tells_append l kids x t.inside more t.trees tells;
}

-- The innermost unit ends, with trees in it that complete it.
pub shut_conforms : (l : Layout) (fs : List Frame) (f : Frame) (kids all : Forest) (o : Begun) → HeldUnit l fs f kids o → Conforms all →
    complete (through (nothing f.id) (ids all)) ≡ true → Conforms (shut f all)
shut_conforms l fs f kids all o u inner full =
    conforms_append f.before (tree f.id f.action f.text all none) u.before (
      record { acts = u.acts; says = u.says; holds = (content_agrees f.id u.parent (ids all)).1 full },
      inner,
      record {},
    )

pub shut_told : (l : Layout) (f : Frame) (fs : List Frame) (kids : Forest) (rs : List Request) → Told l (f ∷ fs) kids rs → Told l fs (shut f kids) rs
shut_told l f fs kids rs t =
    let item : Item = record { id = f.id; action = f.action; text = f.text } in
    let w = t.heads in
    record {
      outside = w.0;
      inside = w.1 ++ (unit item ∷ (t.inside ++ []));
      parts = t.parts ∙ rw (w.2, append-nil) (simp append_assoc);
      heads = w.3;
      trees =
          tells_append l f.before (tree f.id f.action f.text kids none) w.1 (unit item ∷ (t.inside ++ [])) w.4
          (inl (t.inside, [], refl, t.trees, refl));
    }

shut_top : (l : Layout) (written : ℕ) (o : Begun) (os : List Begun) (rs : List Request) (front : List ℕ) → complete o.state ≡ true →
    Spine l written (o ∷ os) rs front → Spine l written os rs front
shut_top l written o os rs front full s = go s.frames s.kids s.held s.conforms s.told s.ends s.bytes
  where
    go : (fs : List Frame) (kids : Forest) → Held l fs kids (o ∷ os) → Conforms kids → Told l fs kids rs →
        written ≡ size l fs + length (encode l kids) → front ≡ heads l written fs ++ encode l kids → Spine l written os rs front
    go [] kids h c t e b = absurd h
    go (f ∷ fs) kids (u, around) c t e b =
        let one = shut_one l written f fs kids e in
        record {
          frames = fs;
          kids = shut f kids;
          held = around;
          conforms = shut_conforms l fs f kids kids o u c (rw u.state at full);
          told = shut_told l f fs kids rs t;
          ends = one.1;
          bytes = b ∙ one.0;
        }

-- Units end from the innermost outwards, if each is complete.
pub shut_inner : (l : Layout) (written : ℕ) (inner os : List Begun) (rs : List Request) (front : List ℕ) → completed inner ≡ true →
    Spine l written (inner ++ os) rs front → Spine l written os rs front
unfolding completed
shut_inner l written [] os rs front full s = s
shut_inner l written (o ∷ inner) os rs front full s =
    let w = both (complete o.state) (completed inner) full in
    shut_inner l written inner os rs front w.1 (shut_top l written o (inner ++ os) rs front w.0 s)
