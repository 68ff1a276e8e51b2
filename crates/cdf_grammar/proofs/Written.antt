-- The bytes of a unit that the judge passes are that unit, written.
use Rattle.std.proofs.Common.{◌≡◌, refl, ap, Bool, true, false, cond, List, ◌++◌, ℕ, ◌+◌, ◌-◌, arith, length, take, drop, length-append, length-take}
use Rattle.std.proofs.Common.{length-drop, take-add}
use Rattle.cdf_unit_prefix.specs.Layout.{Layout, prefix_of}
use Rattle.cdf_unit_table.specs.States.{opens, nothing, complete}
use Rattle.cdf_unit_data.specs.Data.{own_data}
use Rattle.std.specs.Prelude.{Ok}
use Rattle.cdf_unit_judge.proofs.Placed.{Placed}
use Rattle.cdf_grammar.specs.Trees.{Forest, none, ids}
use Rattle.cdf_grammar.specs.Encoding.{prefix_bytes, unit_bytes, encode, Bytes}
use Rattle.cdf_grammar.proofs.Fits.{through, Passes, Fits}
use Rattle.cdf_grammar.proofs.TextAgrees.{taken_text}
use Rattle.cdf_grammar.proofs.Prefixes.{prefix_written}
use Rattle.cdf_grammar.proofs.Built.{unit_is}

-- The own data of a unit of which these are the bytes after its prefix, and k of them its name or fixed numbers.
abbrev pub text_of : ℕ → ℕ → List ℕ → List ℕ
text_of id k body = take (cond (opens id) k (length body)) body

-- The bytes are a unit of this id that passes, and what is nested in it fits.
pub record UnitIs (l : Layout) (id : ℕ) (s : List ℕ) : Type 0 where
  pub action : ℕ
  pub text : List ℕ
  pub inner : Forest
  pub passes : Passes l id action text inner
  pub fits : Fits l inner
  pub bytes : s ≡ unit_bytes l id action text (encode l inner)

pub unit_written : {l : Layout} {root : Bool} {state : ℕ} {s : List ℕ} {id action own len next : ℕ} →
    Placed l root state s id action own len next → Bytes s → (body : List ℕ) → body ≡ take (len - prefix_of l) (drop (prefix_of l) s) →
    (inner : Forest) → text_of id (own - prefix_of l) body ++ encode l inner ≡ body →
    (opens id ≡ true → complete (through (nothing id) (ids inner)) ≡ true) → (opens id ≡ false → inner ≡ none) → Fits l inner →
    UnitIs l id (take len s)
unit_written {l} {s = s} {id = id} {action = action} {own = own} {len = len} p b body is inner all full leaf fit =
    let k = prefix_of l in
    let text = text_of id (own - k) body in
    let taken : own_data id body ≡ Ok (own - k) = rw is p.taken in
    let same = (taken_text id p.recognised body (own - k) taken text refl).1 in
    let long : length body ≡ len - k = simp (is, length-take, length-drop) (omega arith) in
    let pieces = length-append text (encode l inner) in
    let whole = ap length all in
    let size : len ≡ k + (length text + length (encode l inner)) = omega arith in
    let read = prefix_written l s b p.mark (omega arith) in
    let front : take k s ≡ prefix_bytes l len action id = rw (p.is_length, p.is_action, p.is_id) read in
    let parts : len ≡ k + (len - k) = omega arith in
    record {
      action = action;
      text = text;
      inner = inner;
      passes = record {
        recognised = p.recognised;
        allowed = p.allowed;
        taken = rw (all, same) taken;
        exact = λ e. let few : length text ≡ own - k = rw (e, length-take) (omega arith) in omega arith;
        full = full;
        leaf = leaf;
      };
      fits = fit;
      bytes = cc (take-add k (len - k) s, unit_is l id action text (encode l inner));
    }
