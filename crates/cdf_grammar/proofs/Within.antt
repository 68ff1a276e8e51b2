-- The unit at the front of the bytes, as the root or one level down: the list of its units ends exactly if it is the encoding of a
-- tree that fits.
use Rattle.std.proofs.Common.{◌≡◌, refl, sym, ap, subst, ◌∙◌, Bool, true, false, List, [], ◌∷◌, ◌++◌, append-nil, ℕ, suc, ◌+◌, ◌^◌, ◌≤◌, ◌<◌, arith}
use Rattle.std.proofs.Common.{length, take}
use Rattle.std.proofs.lemmas.Bool.{false≢true}
use mathlib.Core.List.{cons≢nil}
use lib.Seq.{take-length}
use Rattle.cdf_unit_prefix.specs.Layout.{Layout, length_at, id_at}
use Rattle.cdf_unit_table.specs.States.{admit, admits, root_kind}
use Rattle.cdf_unit_judge.specs.Judge.{judge_of, Judged, Fault, Found}
use Rattle.cdf_unit_list.specs.Units.{End, unfinished, ended, fault, Listing, list_by, listing}
use Rattle.cdf_unit_list.specs.Check.{answer_of, answer, check_in}
use Rattle.cdf_unit_list.specs.Stack.{entered}
use Rattle.cdf_unit_list.specs.Steps.{steps_from, steps}
use Rattle.cdf_unit_judge.proofs.Placed.{placed}
use Rattle.cdf_unit_table.proofs.Rows.{admits_nested, admits_root, root_kind_lem, root_opens}
use Rattle.cdf_unit_list.proofs.Agreement.{follows}
use Rattle.cdf_unit_list.proofs.Entering.{unit_from}
use Rattle.cdf_unit_list.proofs.Numbered.{numbered}
use Rattle.cdf_unit_list.proofs.Stepping.{steps_on, faults, enters, refused_never}
use Rattle.cdf_grammar.specs.Trees.{Forest, none, tree, ids}
use Rattle.cdf_grammar.specs.Encoding.{Bytes, Stream, unit_bytes, encode, list}
use Rattle.cdf_grammar.proofs.Fits.{Fits}
use Rattle.cdf_grammar.proofs.Built.{encode_tree, encode_one, size_of, length_unit, unit_judged}
use Rattle.cdf_grammar.proofs.Prefixes.{id_read}
use Rattle.cdf_grammar.proofs.Unique.{unit_parts}
use Rattle.cdf_grammar.proofs.Agrees.{root_agrees}
use Rattle.cdf_grammar.proofs.Written.{UnitIs}
use Rattle.cdf_grammar.proofs.Forward.{front_lists}
use Rattle.cdf_grammar.proofs.Backward.{steps_after, front_ends}

module _ (l : Layout) (root : Bool) (state : ℕ) (s : List ℕ) where
  by_steps : list_by l s (judge_of l root state s) ≡ steps_from (suc (length s)) l s (entered 0 (λ next. []) (judge_of l root state s)) []
  unfolding steps
  by_steps = rw (← follows l s root state)

  -- An answer of 0 is a list that ended: a fault has another number.
  pub accepted_ends : (answer (list_by l s (judge_of l root state s))).number ≡ 0 → (list_by l s (judge_of l root state s)).end ≡ ended
  unfolding answer
  accepted_ends e = go (list_by l s (judge_of l root state s)).end refl e
    where
      n : ℕ
      n = length (list_by l s (judge_of l root state s)).units

      go : (x : End) → (list_by l s (judge_of l root state s)).end ≡ x → (answer_of n x).number ≡ 0 →
          (list_by l s (judge_of l root state s)).end ≡ ended
      go unfinished q e = absurd (omega arith)
      go ended q e = q
      go (fault k at) q e = absurd (omega (arith, numbered l s root state q))

  -- A list that ends is of a unit that the judge passes.
  record Front : Type 0 where
    id : ℕ
    action : ℕ
    own : ℕ
    len : ℕ
    next : ℕ
    is : judge_of l root state s ≡ Found id action own len next

  front : (list_by l s (judge_of l root state s)).end ≡ ended → Front
  front q = go (judge_of l root state s) refl
    where
      go : (j : Judged) → judge_of l root state s ≡ j → Front
      go (Fault k at) e = absurd (refused_never l s (suc (length s)) k (0 + at) [] (rw (by_steps, e, faults) at q))
      go (Found id action own len next) e =
          record { id = id; action = action; own = own; len = len; next = next; is = e }

  -- Its bytes are one that fits, written.
  front_unit : Bytes s → (list_by l s (judge_of l root state s)).end ≡ ended → (f : Front) → UnitIs l f.id (take f.len s)
  front_unit b q f =
      let u = unit_from 0 f.id f.action f.own f.len in
      let inside : (steps_after l s u [] (length s) (u ∷ [])).end ≡ ended = rw (by_steps, f.is, enters, steps_on) at q in
      front_ends l s b (placed l root state s f.is) inside

-- The units and the length of a tree that fits, where it is admitted. As the root (`true`) it has to be all the bytes, within the
-- limit.
front_listed : {l : Layout} {id action : ℕ} {text : List ℕ} {inner : Forest} → Fits l (tree id action text inner none) →
    size_of l text inner < 256 ^ l.length_bytes → (root : Bool) (state : ℕ) → (admits root state id ≡ 0 → ⊥) → (s more : List ℕ) →
    s ≡ unit_bytes l id action text (encode l inner) ++ more → (root ≡ true → (more ≡ []) × (size_of l text inner ≤ l.limit)) →
    (list_by l s (judge_of l root state s) ≡ record { units = list l 0 (tree id action text inner none); end = ended }) ×
    (length_at l s ≡ size_of l text inner)
front_listed {l} {id} fit small root state some s more here alone =
    let next = admits root state id in
    let judged = ap (judge_of l root state) here ∙ unit_judged fit.0 small root state next refl some more alone in (
      rw (by_steps l root state s, judged) (front_lists fit.0 fit.1 small next s more here),
      sym (placed l root state s judged).is_length,
    )

-- A tree with one root.
pub one_root : (t : Forest) (id : ℕ) → ids t ≡ id ∷ [] →
    (action : ℕ) × (text : List ℕ) × (inner : Forest) × (t ≡ tree id action text inner none)
unfolding ids
one_root none id e = absurd (cons≢nil (sym e))
one_root (tree i action text inner none) id e = (action, text, inner, cc)
one_root (tree i action text inner (tree j a s f x)) id e = let z : j ∷ ids x ≡ [] = cc in absurd (cons≢nil z)

root_lists : {l : Layout} {id action : ℕ} {text : List ℕ} {inner : Forest} (s : List ℕ) → l.limit < 256 ^ l.length_bytes →
    root_kind id ≡ true → Fits l (tree id action text inner none) → encode l (tree id action text inner none) ≡ s → length s ≤ l.limit →
    listing l s ≡ record { units = list l 0 (tree id action text inner none); end = ended }
unfolding listing
root_lists {l} {id} {action} {text} {inner} s wide root fit e short =
    let unit = unit_bytes l id action text (encode l inner) in
    let is : s ≡ unit ++ [] = sym e ∙ encode_one l id action text inner ∙ sym (append-nil unit) in
    let long : length s ≡ size_of l text inner = rw (is, append-nil, length_unit) in
    let some : admits true 0 id ≡ 0 → ⊥ = λ z. root_opens id root (sym (admits_root 0 id root) ∙ z) in
    (front_listed fit (omega arith) true 0 some s [] is (λ r. (refl, omega arith))).0

pub lists : (l : Layout) → l.limit < 256 ^ l.length_bytes → (s : List ℕ) (t : Forest) (id : ℕ) → ids t ≡ id ∷ [] →
    root_kind id ≡ true → Fits l t → encode l t ≡ s → length s ≤ l.limit →
    listing l s ≡ record { units = list l 0 t; end = ended }
lists l wide s t id one root fit e short =
    subst (λ x. Fits l x → encode l x ≡ s → listing l s ≡ record { units = list l 0 x; end = ended }) (sym (one_root t id one).3)
    (λ f b. root_lists s wide root f b short) fit e

-- The bytes are one tree of a root's kind that fits, within the limit.
abbrev pub Encoded : Layout → List ℕ → Type 0
Encoded l s =
    (t : Forest) × (id : ℕ) × (ids t ≡ id ∷ []) × (root_kind id ≡ true) × Fits l t × (encode l t ≡ s) × (length s ≤ l.limit)

root_encoded : (l : Layout) (s : List ℕ) (id : ℕ) → root_kind id ≡ true → length s ≤ l.limit → UnitIs l id s → Encoded l s
unfolding ids
root_encoded l s id root short v = (
  tree id v.action v.text v.inner none,
  id,
  refl,
  root,
  (v.passes, v.fits, record {}),
  encode_one l id v.action v.text v.inner ∙ sym v.bytes,
  short,
)

pub built : (l : Layout) (s : List ℕ) → Bytes s → (listing l s).end ≡ ended → Encoded l s
unfolding listing
built l s b q =
    let f = front l true 0 s q in
    let p = placed l true 0 s f.is in
    let all : take f.len s ≡ s = rw (p.whole refl, take-length) in
    let root = root_kind_lem 0 f.id (λ z. p.some (sym p.may ∙ z)) in
    root_encoded l s f.id root (omega (arith, p.whole refl, p.short refl)) (rw all at (front_unit l true 0 s b q f))

-- A stream is a tree whose root has the id that its prefix says.
pub root_read : (l : Layout) (g : List ℕ) (id action : ℕ) (text : List ℕ) (inner : Forest) →
    Stream l g (tree id action text inner none) → id_at l g ≡ id
root_read l g id action text inner s =
    ap (id_at l) (sym s.bytes ∙ encode_tree l id action text inner none ∙ unit_parts l id action text (encode l inner) (encode l none))
    ∙ id_read l _ action id _

read_root : (l : Layout) (g : List ℕ) (id action : ℕ) (text : List ℕ) (inner : Forest) → Stream l g (tree id action text inner none) →
    Stream l g (tree (id_at l g) action text inner none)
read_root l g id action text inner s = rw (root_read l g id action text inner s) s

pub stream_root : (l : Layout) (g : List ℕ) (t : Forest) → Stream l g t →
    (action : ℕ) × (text : List ℕ) × (inner : Forest) × Stream l g (tree (id_at l g) action text inner none)
stream_root l g t s =
    let root = (root_agrees t).0 s.tree.root in
    let one = one_root t root.0 root.1 in
    (one.0, one.1, one.2, read_root l g root.0 one.0 one.1 one.2 (rw one.3 at s))

-- One level down: a unit is admitted at the front of what the enclosing unit, in `state`, has left.
pub record Stands (l : Layout) (state : ℕ) (s : List ℕ) : Type 0 where
  pub id : ℕ
  pub may : admit state id ≡ 0 → ⊥
  pub high : length_at l s ≤ length s
  pub unit : Bytes s → UnitIs l id (take (length_at l s) s)

pub stands : (l : Layout) (state : ℕ) (s : List ℕ) → (check_in l state s).number ≡ 0 → Stands l state s
unfolding check_in
stands l state s e =
    let q = accepted_ends l false state s e in
    let f = front l false state s q in
    let p = placed l false state s f.is in
    record {
      id = f.id;
      may = λ z. p.some (sym p.may ∙ admits_nested state f.id ∙ z);
      high = omega arith;
      unit = λ b. rw p.is_length at (front_unit l false state s b q f);
    }

pub stands_tree : {l : Layout} {id action : ℕ} {text : List ℕ} {inner : Forest} → Fits l (tree id action text inner none) →
    size_of l text inner < 256 ^ l.length_bytes → (state : ℕ) → (admit state id ≡ 0 → ⊥) → (s more : List ℕ) →
    s ≡ unit_bytes l id action text (encode l inner) ++ more → ((check_in l state s).number ≡ 0) × (length_at l s ≡ size_of l text inner)
unfolding check_in
stands_tree {id = id} fit small state may s more here =
    let some : admits false state id ≡ 0 → ⊥ = λ z. may (sym (admits_nested state id) ∙ z) in
    let w = front_listed fit small false state some s more here (λ r. absurd (false≢true r)) in
    (ap (λ (x : Listing). (answer x).number) w.0, w.1)
