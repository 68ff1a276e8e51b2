-- The judge passes an encoded unit that keeps the rules.
use Rattle.std.proofs.Common.{◌≡◌, refl, sym, Bool, true, List, [], ◌++◌, append_assoc, append-nil, ℕ, ◌+◌, ◌-◌, ◌^◌, ◌≤◌, ◌<◌, arith, length}
use Rattle.std.proofs.Common.{length-append, take_at, drop_at}
use Rattle.cdf_unit_prefix.specs.Layout.{Layout, prefix_of}
use Rattle.cdf_unit_table.specs.States.{admits}
use Rattle.cdf_unit_judge.specs.Judge.{judge_of, Found}
use Rattle.cdf_unit_judge.proofs.Placed.{judged}
use Rattle.cdf_unit_data.proofs.Taken.{taken_fits}
use Rattle.cdf_grammar.specs.Trees.{Forest, none, tree}
use Rattle.cdf_grammar.specs.Encoding.{prefix_bytes, unit_bytes, encode}
use Rattle.cdf_grammar.proofs.Fits.{own_of, Passes}
use Rattle.cdf_grammar.proofs.Prefixes.{length_prefix, mark_read, length_read, action_read, id_read}

-- How many bytes a unit has.
abbrev pub size_of : Layout → List ℕ → Forest → ℕ
size_of l text inner = prefix_of l + (length text + length (encode l inner))

-- To unfold `encode` or `unit_bytes` would unfold the prefix too, so these equations stand for that.
pub encode_none : (l : Layout) → encode l none ≡ []
unfolding encode
encode_none l = refl

pub encode_tree : (l : Layout) (id action : ℕ) (text : List ℕ) (inner rest : Forest) →
    encode l (tree id action text inner rest) ≡ unit_bytes l id action text (encode l inner) ++ encode l rest
unfolding encode
encode_tree l id action text inner rest = refl

pub encode_one : (l : Layout) (id action : ℕ) (text : List ℕ) (inner : Forest) →
    encode l (tree id action text inner none) ≡ unit_bytes l id action text (encode l inner)
encode_one l id action text inner = rw (encode_tree, encode_none, append-nil)

pub unit_is : (l : Layout) (id action : ℕ) (text inner : List ℕ) →
    unit_bytes l id action text inner
    ≡ prefix_bytes l (prefix_of l + (length text + length inner)) action id ++ (text ++ inner)
unfolding unit_bytes
unit_is l id action text inner = refl

pub length_unit : (l : Layout) (id action : ℕ) (text inner : List ℕ) →
    length (unit_bytes l id action text inner) ≡ prefix_of l + (length text + length inner)
length_unit l id action text inner = simp (unit_is, length-append, length_prefix)

pub length_tree : (l : Layout) (id action : ℕ) (text : List ℕ) (inner rest : Forest) →
    length (encode l (tree id action text inner rest)) ≡ size_of l text inner + length (encode l rest)
length_tree l id action text inner rest = rw (encode_tree, length-append, length_unit)

-- As the root (`true`) it has to be all the bytes, within the limit.
pub unit_judged : {l : Layout} {id action : ℕ} {text : List ℕ} {inner : Forest} → Passes l id action text inner →
    size_of l text inner < 256 ^ l.length_bytes → (root : Bool) (state next : ℕ) → admits root state id ≡ next → (next ≡ 0 → ⊥) →
    (more : List ℕ) → (root ≡ true → (more ≡ []) × (size_of l text inner ≤ l.limit)) →
    judge_of l root state (unit_bytes l id action text (encode l inner) ++ more)
    ≡ Found id action (prefix_of l + own_of id text) (size_of l text inner) next
unit_judged {l} {id} {action} {text} {inner} p small root state next may some more alone =
    let body = text ++ encode l inner in
    let size = size_of l text inner in
    let front = prefix_bytes l size action id in
    let s = front ++ (body ++ more) in
    let same : (front ++ body) ++ more ≡ s = append_assoc front body more in
    let few = taken_fits _ id body (own_of id text) p.taken in
    let long : length body ≡ length text + length (encode l inner) = length-append text (encode l inner) in
    let all : length s ≡ size + length more = simp (length-append, length_prefix) (omega arith) in
    let behind = drop_at front (body ++ more) (prefix_of l) (length_prefix l size action id) in
    let cut : size - prefix_of l ≡ length body = omega arith in
    let own : prefix_of l + own_of id text - prefix_of l ≡ own_of id text = omega arith in
    rw (unit_is, same)
    (judged l root state s (record {
      mark = mark_read l size action id (body ++ more);
      is_id = sym (id_read l size action id (body ++ more));
      is_action = sym (action_read l size action id (body ++ more));
      is_length = sym (length_read l size action id (body ++ more) small);
      recognised = p.recognised;
      may = may;
      some = some;
      allowed = p.allowed;
      taken = rw (behind, cut, take_at body more (length body) refl, own) p.taken;
      room = omega arith;
      inside = omega arith;
      high = omega arith;
      whole = λ r. let none : length more ≡ 0 = rw (alone r).0 in omega arith;
      short = λ r. (alone r).1;
    }))
