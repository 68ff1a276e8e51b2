-- Own data: the texts of the productions are what `own_data` takes.
use Rattle.std.proofs.Common.{ℕ, ◌+◌, ◌≤◌, ◌≡◌, refl, sym, ◌∙◌, ap, Bool, true, false, cond, List, [], ◌++◌, append-nil, arith, le-leb, leb-true}
use Rattle.std.proofs.Common.{eq-eqb, eqb-true, leb, eqb, length, take, drop, length-append, length-drop, take-append-drop, length-take-le}
use Rattle.std.proofs.lemmas.Bool.{false≢true}
use lib.Seq.{take-length}
use Rattle.cdf_unit_table.specs.Ids.{Rule, blank, name, name_value, value, numbers, kind_of, known}
use Rattle.cdf_unit_table.specs.States.{opens}
use Rattle.cdf_unit_table.proofs.Bools.{clash}
use Rattle.cdf_unit_data.specs.Data.{name_bytes, name_of, value_after, data_by, own_data, own_data_by, Own}
use Rattle.std.specs.Prelude.{Ok, Err}
use Rattle.cdf_grammar.specs.Published.{TextIs, production_of}
use Rattle.cdf_grammar.specs.Encoding.{own_length}
use Rattle.cdf_grammar.proofs.Fits.{own_of}
use Rattle.cdf_grammar.proofs.KindsAgree.{text_of, suits, agreed}
use Rattle.cdf_grammar.proofs.Names.{taken, name_taken, name_size, taken_name}

-- Of each rule, in what is a unit or is none, and in which others may follow or not.
rule_exact : (r : Rule) (unit : Bool) → suits unit r true ≡ true → (text : List ℕ) → TextIs (text_of r) text →
    own_length (text_of r) text ≡ length text
unfolding own_length
rule_exact blank unit u text is = ap length (sym is)
rule_exact name unit u text is = rw append-nil at (name_size text [] is)
rule_exact name_value unit u text is = absurd (false≢true u)
rule_exact value unit u text is = absurd (false≢true u)
rule_exact (numbers n) unit u text is = sym is

rule_taken : (r : Rule) (unit others : Bool) → suits unit r others ≡ true → (text inner : List ℕ) → TextIs (text_of r) text →
    (others ≡ false → inner ≡ []) → data_by name_bytes r others (text ++ inner) ≡ Ok (own_length (text_of r) text)
unfolding data_by own_length
rule_taken blank unit others u text inner is last = refl
rule_taken name unit others u text inner is last = name_taken text inner is ∙ ap Ok (sym (rule_exact name true refl text is))
rule_taken name_value unit true u text inner is last = absurd (false≢true u)
rule_taken name_value unit false u text inner is last =
    let (front, rest, e, n, v) = is in
    let fits : length (front ++ rest) ≤ length front + 4096 = omega (arith, length-append front rest) in
    rw (last refl, append-nil, e, name_taken front rest n, le-leb (length (front ++ rest)) (length front + 4096) fits)
    (ap Ok (sym (name_size front rest n)))
rule_taken value unit true u text inner is last = absurd (false≢true u)
rule_taken value unit false u text inner is last = rw (last refl, append-nil, le-leb (length text) 4096 is)
rule_taken (numbers n) unit true u text inner is last =
    rw (le-leb n (length (text ++ inner)) (omega (arith, length-append text inner, is)))
rule_taken (numbers n) unit false u text inner is last = rw (last refl, append-nil, eq-eqb (length text) n is)

value_after_lem : (s : List ℕ) (x : Own) (k : ℕ) → value_after s x ≡ Ok k → (x ≡ Ok k) × (length s ≤ k + 4096)
unfolding value_after
value_after_lem s (Ok j) k e =
    let w = taken (leb (length s) (j + 4096)) (Ok j) (j + 4096) k e in
    let z : j ≡ k = cc w.1 in
    (w.1, rw z at (leb-true (length s) (j + 4096) w.0))
value_after_lem s (Err j) k e = clash cc

taken_rule : (r : Rule) (others : Bool) → suits true r others ≡ true → (s : List ℕ) (k : ℕ) → data_by name_bytes r others s ≡ Ok k →
    (text : List ℕ) → text ≡ take (cond others k (length s)) s → TextIs (text_of r) text × (own_length (text_of r) text ≡ k)
unfolding data_by own_length
taken_rule blank true u s k e text q = let z : 0 ≡ k = cc in (rw (← z) at q, z)
taken_rule blank false u s k e text q = absurd (false≢true u)
taken_rule name true u s k e text q =
    let n = taken_name s k e in rw q (n.0, rule_exact name true refl (take k s) n.0 ∙ n.1)
taken_rule name false u s k e text q = absurd (false≢true u)
taken_rule name_value true u s k e text q = absurd (false≢true u)
taken_rule name_value false u s k e text q =
    let v = value_after_lem s (name_of s) k e in
    let n = taken_name s k v.0 in
    rw (q, take-length s) (
      (take k s, drop k s, sym (take-append-drop k s), n.0, simp length-drop (omega arith)),
      rw take-append-drop at (name_size (take k s) (drop k s) n.0) ∙ n.1,
    )
taken_rule value true u s k e text q = absurd (false≢true u)
taken_rule value false u s k e text q =
    let w = taken (leb (length s) 4096) (Ok 0) 4096 k e in
    rw (q, take-length s) (leb-true (length s) 4096 w.0, cc w.1)
taken_rule (numbers n) true u s k e text q =
    let w = taken (leb n (length s)) (Ok n) 0 k e in
    let z : n ≡ k = cc w.1 in
    rw (q, ← z) (length-take-le n s (leb-true n (length s) w.0), refl)
taken_rule (numbers n) false u s k e text q =
    let w = taken (eqb (length s) n) (Ok n) 0 k e in
    rw (q, take-length s) (eqb-true (length s) n w.0, cc w.1)

-- Of each id.
pub text_taken : (id : ℕ) (text inner : List ℕ) → TextIs (production_of id).text text → (opens id ≡ false → inner ≡ []) →
    own_data id (text ++ inner) ≡ Ok (own_of id text)
unfolding own_data_by
text_taken id text inner is last =
    rw (agreed id).text (rule_taken (kind_of id).rule (known id) (opens id) (agreed id).suited text inner (rw (agreed id).text at is) last)

pub text_exact : (id : ℕ) (text : List ℕ) → TextIs (production_of id).text text → opens id ≡ true → own_of id text ≡ length text
text_exact id text is o =
    rw (agreed id).text (rule_exact (kind_of id).rule (known id) (rw o at (agreed id).suited) text (rw (agreed id).text at is))

pub taken_text : (id : ℕ) → known id ≡ true → (s : List ℕ) (k : ℕ) → own_data id s ≡ Ok k → (text : List ℕ) →
    text ≡ take (cond (opens id) k (length s)) s → TextIs (production_of id).text text × (own_of id text ≡ k)
unfolding own_data_by
taken_text id unit s k e text q =
    rw (agreed id).text (taken_rule (kind_of id).rule (opens id) (rw unit at (agreed id).suited) s k e text q)
