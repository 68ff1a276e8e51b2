-- One or more units that a group takes as its first make a group: it admits the same after each, and is then complete.
use Rattle.std.proofs.Common.{ℕ, suc, ◌^◌, ◌≤◌, ◌<◌, ◌≡◌, refl, sym, ap, ◌∙◌, true, false, cond, List, [], ◌∷◌, ◌++◌, map, append-nil, ◌↔◌, inl, inr}
use Rattle.std.proofs.Common.{arith, ne_eqb, eqb, length, take}
use Rattle.std.proofs.lemmas.Bool.{false≢true}
use mathlib.Core.List.{flatten, cons≢nil}
use lib.Seq.{take-length}
use Rattle.cdf_unit_prefix.specs.Layout.{Layout, length_at}
use Rattle.cdf_unit_table.specs.Ids.{er_group, file_group, ids_end}
use Rattle.cdf_unit_table.specs.States.{er_new, file_new, nothing, opens, admit, complete, root_kind}
use Rattle.cdf_unit_table.proofs.Tables.{up_to, same}
use Rattle.cdf_unit_table.proofs.Rows.{admit_unknown}
use Rattle.cdf_grammar.specs.Trees.{Forest, none, tree, ids, singly}
use Rattle.cdf_grammar.specs.Published.{Each, Among, TextIs, Follows, production_of}
use Rattle.cdf_grammar.specs.Encoding.{Bytes, Stream, unit_bytes, encode}
use Rattle.cdf_grammar.specs.Groups.{Children, group_bytes, Holds}
use Rattle.cdf_grammar.proofs.Parts.{bytes_both}
use Rattle.cdf_grammar.proofs.Fits.{through, through_none, complete_some, Fits}
use Rattle.cdf_grammar.proofs.RowsAgree.{content_agrees}
use Rattle.cdf_grammar.proofs.Agrees.{fits, conforms, root_agrees}
use Rattle.cdf_grammar.proofs.Built.{encode_none, encode_tree, encode_one, length_unit, length_tree}
use Rattle.cdf_grammar.proofs.Written.{UnitIs}
use Rattle.cdf_grammar.proofs.Within.{stands, stands_tree}

-- A unit in this state, in which it has had nothing, takes each of these as its first.
abbrev pub Firsts : ℕ → List ℕ → Type 0
Firsts state cs = Each (λ c. admit state c ≡ 0 → ⊥) cs

-- After one it is in the next state, which admits the same and is complete.
record Repeats (state : ℕ) : Type 0 where
  next : (c : ℕ) → (admit state c ≡ 0 → ⊥) → admit state c ≡ suc state
  again : (c : ℕ) → admit (suc state) c ≡ admit state c
  unmet : complete state ≡ false
  met : complete (suc state) ≡ true

found : ℕ → ℕ → ℕ × ℕ
found state c = (admit state c, admit (suc state) c)

due : ℕ → ℕ → ℕ × ℕ
due state c = (cond (eqb (admit state c) 0) 0 (suc state), admit state c)

repeats : (state : ℕ) → up_to (found state) ids_end ≡ up_to (due state) ids_end → complete state ≡ false → complete (suc state) ≡ true →
    Repeats state
unfolding found due
repeats state table unmet met =
    let rule = same (found state) (due state) ids_end table beyond in
    record {
      next = λ c may. rw (ne_eqb (admit state c) 0 may) at (ap (λ (p : ℕ × ℕ). p.0) (rule c));
      again = λ c. ap (λ (p : ℕ × ℕ). p.1) (rule c);
      unmet = unmet;
      met = met;
    }
  where
    beyond : (c : ℕ) → ids_end ≤ c → found state c ≡ due state c
    beyond c h = rw (admit_unknown state c h, admit_unknown (suc state) c h)

module _ {state : ℕ} (r : Repeats state) where
  through_firsts : (cs : List ℕ) → Firsts state cs → through (suc state) cs ≡ suc state
  unfolding through
  through_firsts [] h = refl
  through_firsts (c ∷ cs) h = rw (r.again c, r.next c h.0) (through_firsts cs h.1)

  firsts_through : (cs : List ℕ) → complete (through (suc state) cs) ≡ true → Firsts state cs
  unfolding through
  firsts_through [] e = record {}
  firsts_through (c ∷ cs) e =
      let may : admit state c ≡ 0 → ⊥ = λ z. complete_some (through (admit (suc state) c) cs) e (rw (r.again c, z) (through_none cs)) in
      (may, firsts_through cs (rw (r.again c, r.next c may) at e))

  complete_firsts : (cs : List ℕ) → (complete (through state cs) ≡ true) ↔ ((cs ≡ [] → ⊥) × Firsts state cs)
  unfolding through
  complete_firsts [] = (λ e. absurd (false≢true (sym r.unmet ∙ e)), λ h. absurd (h.0 refl))
  complete_firsts (c ∷ cs) = (
    λ e.
        let may : admit state c ≡ 0 → ⊥ = λ z. complete_some (through (admit state c) cs) e (rw z (through_none cs)) in
        (λ z. cons≢nil z, (may, firsts_through cs (rw (r.next c may) at e))),
    λ h. rw (r.next c h.1.0, through_firsts cs h.1.1) r.met,
  )

-- What both kinds of group have: no action, no own data, and any number, from one on, of what they admit.
pub record GroupKind (group : ℕ) : Type 0 where
  pub acts : Among 0 (production_of group).actions
  pub says : TextIs (production_of group).text []
  pub opens : opens group ≡ true
  pub root : root_kind group ≡ true
  pub full : (cs : List ℕ) → (complete (through (nothing group) cs) ≡ true) ↔ ((cs ≡ [] → ⊥) × Firsts (nothing group) cs)

pub group_kind : (group : ℕ) → Among group (er_group ∷ file_group ∷ []) → GroupKind group
unfolding found due production_of nothing opens admit complete root_kind
group_kind group (inl e) =
    rw e (record { acts = inl refl; says = refl; opens = refl; root = refl; full = complete_firsts (repeats er_new refl refl refl) })
group_kind group (inr (inl e)) =
    rw e (record { acts = inl refl; says = refl; opens = refl; root = refl; full = complete_firsts (repeats file_new refl refl refl) })
group_kind group (inr (inr e)) = absurd e

-- These bytes are a unit that is taken in this state, by the rules of one unit.
pub record Taken (l : Layout) (state : ℕ) (s : List ℕ) : Type 0 where
  pub id : ℕ
  pub may : admit state id ≡ 0 → ⊥
  pub unit : UnitIs l id s

abbrev pub AllTaken : Layout → ℕ → List (List ℕ) → Type 0
AllTaken l state [] = record {}
AllTaken l state (s ∷ parts) = Taken l state s × AllTaken l state parts

module _ (l : Layout) where
  children_taken : (group : ℕ) (parts : List (List ℕ)) → Bytes (flatten parts) → Children l group parts → AllTaken l (nothing group) parts
  unfolding flatten
  children_taken group [] b c = record {}
  children_taken group (s ∷ parts) b (c, more) =
      let bytes = bytes_both s (flatten parts) b in
      let w = stands l (nothing group) s c.accepted in
      let all : take (length_at l s) s ≡ s = ap (λ n. take n s) c.whole ∙ take-length s in
      let unit : UnitIs l w.id s = rw all at (w.unit bytes.0) in
      (record { id = w.id; may = w.may; unit = unit }, children_taken group parts bytes.1 more)

  -- Their trees.
  record Gathered (state : ℕ) (parts : List (List ℕ)) : Type 0 where
    trees : Forest
    fit : Fits l trees
    firsts : Firsts state (ids trees)
    units : map (encode l) (singly trees) ≡ parts

  gathered : (state : ℕ) (parts : List (List ℕ)) → AllTaken l state parts → Gathered state parts
  unfolding ids singly
  gathered state [] all = record { trees = none; fit = record {}; firsts = record {}; units = refl }
  gathered state (s ∷ parts) (first, all) =
      let h = gathered state parts all in
      let u = first.unit in
      let bytes = encode_one l first.id u.action u.text u.inner ∙ sym u.bytes in
      record {
        trees = tree first.id u.action u.text u.inner h.trees;
        fit = (u.passes, u.fits, h.fit);
        firsts = (first.may, h.firsts);
        units = rw (bytes, h.units);
      }

  encode_singly : (t : Forest) → encode l t ≡ flatten (map (encode l) (singly t))
  unfolding singly flatten
  encode_singly none = encode_none l
  encode_singly (tree id action text inner rest) = rw (encode_tree, encode_one, ← encode_singly rest)

  no_units : (t : Forest) → (ids t ≡ []) ↔ (map (encode l) (singly t) ≡ [])
  unfolding ids singly
  no_units none = (λ e. refl, λ e. refl)
  no_units (tree id action text inner rest) = (λ e. absurd (cons≢nil e), λ e. absurd (cons≢nil e))

  pub group_holds : (group : ℕ) → Among group (er_group ∷ file_group ∷ []) → (parts : List (List ℕ)) → (parts ≡ [] → ⊥) →
      AllTaken l (nothing group) parts → length (group_bytes l group parts) ≤ l.limit → Holds l group parts
  unfolding ids group_bytes
  group_holds group is parts some all within =
      let kind = group_kind group is in
      let h = gathered (nothing group) parts all in
      let full = (kind.full (ids h.trees)).1 (λ z. some (sym h.units ∙ (no_units h.trees).0 z), h.firsts) in
      let follows : Follows group 0 [] h.trees = record {
        acts = kind.acts;
        says = kind.says;
        holds = (content_agrees group kind.opens (ids h.trees)).1 full;
      } in
      record {
        held = h.trees;
        trees = h.units;
        stream = record {
          tree = record {
            root = (root_agrees (tree group 0 [] h.trees none)).1 (group, refl, kind.root);
            conforms = (follows, conforms l h.trees h.fit, record {});
          };
          within = within;
          bytes = rw (encode_one, encode_singly h.trees, h.units);
        };
      }

  -- And back: each tree in a group is one that it takes as its first.
  singly_children : (group : ℕ) (t : Forest) → Fits l t → Firsts (nothing group) (ids t) → length (encode l t) < 256 ^ l.length_bytes →
      Children l group (map (encode l) (singly t))
  unfolding ids singly
  singly_children group none fit firsts small = record {}
  singly_children group (tree id action text inner rest) fit firsts small =
      let long = length_tree l id action text inner rest in
      let one = encode_one l id action text inner in
      let unit = unit_bytes l id action text (encode l inner) in
      let here : encode l (tree id action text inner none) ≡ unit ++ [] = one ∙ sym (append-nil unit) in
      let size = ap length one ∙ length_unit l id action text (encode l inner) in
      let w = stands_tree (fit.0, fit.1, record {}) (omega arith) (nothing group) firsts.0 _ [] here in (
        record { accepted = w.0; whole = w.1 ∙ sym size },
        singly_children group rest fit.2 firsts.1 (omega arith),
      )

  pub children : l.limit < 256 ^ l.length_bytes → (group : ℕ) → Among group (er_group ∷ file_group ∷ []) → (parts : List (List ℕ)) →
      Bytes (flatten parts) →
      Holds l group parts ↔ ((parts ≡ [] → ⊥) × Children l group parts × (length (group_bytes l group parts) ≤ l.limit))
  unfolding group_bytes
  children wide group is parts b =
      (λ h. back h.held h.trees h.stream, λ w. group_holds group is parts w.0 (children_taken group parts b w.1) w.2)
    where
      back : (held : Forest) → map (encode l) (singly held) ≡ parts → Stream l (group_bytes l group parts) (tree group 0 [] held none) →
          (parts ≡ [] → ⊥) × Children l group parts × (length (group_bytes l group parts) ≤ l.limit)
      back held trees stream =
          let kind = group_kind group is in
          let c = stream.tree.conforms in
          let w = (kind.full (ids held)).0 ((content_agrees group kind.opens (ids held)).0 c.0.holds) in
          let long = length_tree l group 0 [] held none in
          let small : length (encode l held) < 256 ^ l.length_bytes = omega (arith, ap length stream.bytes, stream.within) in
          let all = singly_children group held (fits l held c.1) w.1 small in (
            λ z. w.0 ((no_units held).1 (trees ∙ z)),
            rw trees at all,
            stream.within,
          )
