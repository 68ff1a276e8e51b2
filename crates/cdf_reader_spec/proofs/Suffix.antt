-- The units that are left of open ones that fit, once some inside them are closed.
use Rattle.std.proofs.Common.{ℕ, ◌+◌, ◌≤◌, ◌≡◌, Bool, true, List, [], ◌∷◌, ◌++◌, arith, leb-true, eqb-true, leb}
use Rattle.cdf_unit_table.proofs.Bools.{both}
use Rattle.cdf_unit_prefix.specs.Layout.{Layout, prefix_of}
use Rattle.cdf_unit_list.specs.declared.Open.{Open}
use Rattle.cdf_reader_spec.specs.Place.{nested, positioned}
use Rattle.cdf_reader_spec.proofs.Fitting.{Starts, Ends}

module _ (root : Open → Bool) (inner : Open → Open → Bool) where
  -- What holds of units in one another holds of those around them.
  pub suffix : (front : List Open) (o : Open) (os : List Open) → nested root inner (front ++ (o ∷ os)) ≡ true →
      nested root inner (o ∷ os) ≡ true
  unfolding nested
  suffix [] o os e = e
  suffix (x ∷ []) o os e = (both (inner o x) _ e).1
  suffix (x ∷ y ∷ front) o os e = suffix (y ∷ front) o os (both (inner y x) _ e).1

-- None ends after n,
pub ends_most : (n : ℕ) (o : Open) (os : List Open) → Ends n (o ∷ os) → o.end ≤ n
unfolding nested
ends_most n o [] e = omega (arith, eqb-true o.end n e)
ends_most n o (p ∷ os) e =
    let w = both (leb o.end p.end) _ e in
    omega (arith, leb-true o.end p.end w.0, ends_most n p os w.1)

-- nor before a position in the innermost.
pub least : (n position : ℕ) (x : Open) (front : List Open) (o : Open) (os : List Open) → position ≤ x.end →
    Ends n (x ∷ (front ++ (o ∷ os))) → position ≤ o.end
unfolding nested
least n position x [] o os h e = omega (arith, leb-true x.end o.end (both (leb x.end o.end) _ e).0)
least n position x (y ∷ front) o os h e =
    let w = both (leb x.end y.end) _ e in
    least n position y front o os (omega (arith, leb-true x.end y.end w.0)) w.1

pub ends_least : (l : Layout) (n position : ℕ) (front : List Open) (o : Open) (os : List Open) → Ends n (front ++ (o ∷ os)) →
    positioned l position (front ++ (o ∷ os)) ≡ true → position ≤ o.end
unfolding positioned
ends_least l n position [] o os e p = leb-true position o.end (both (leb (o.start + prefix_of l) position) _ p).1
ends_least l n position (x ∷ front) o os e p =
    least n position x front o os (leb-true position x.end (both (leb (x.start + prefix_of l) position) _ p).1) e

-- Each starts a prefix at least before such a position.
before : (l : Layout) (position : ℕ) (x : Open) (front : List Open) (o : Open) (os : List Open) → x.start ≤ position →
    Starts l (x ∷ (front ++ (o ∷ os))) → o.start + prefix_of l ≤ position
unfolding nested
before l position x [] o os h e =
    omega (arith, leb-true (o.start + prefix_of l) x.start (both (leb (o.start + prefix_of l) x.start) _ e).0)
before l position x (y ∷ front) o os h e =
    let w = both (leb (y.start + prefix_of l) x.start) _ e in
    before l position y front o os (omega (arith, leb-true (y.start + prefix_of l) x.start w.0)) w.1

pub starts_least : (l : Layout) (position : ℕ) (front : List Open) (o : Open) (os : List Open) → Starts l (front ++ (o ∷ os)) →
    positioned l position (front ++ (o ∷ os)) ≡ true → o.start + prefix_of l ≤ position
unfolding positioned
starts_least l position [] o os e p = leb-true (o.start + prefix_of l) position (both (leb (o.start + prefix_of l) position) _ p).0
starts_least l position (x ∷ front) o os e p =
    let h = leb-true (x.start + prefix_of l) position (both (leb (x.start + prefix_of l) position) _ p).0 in
    before l position x front o os (omega arith) e
