-- What is admitted lies lower than what admits it: rules of the rows, by one test.
use Rattle.std.proofs.Common.{ℕ, zero, suc, ◌<◌, ◌≡◌, refl, Bool, true, false, not, ◌&&◌, ◌||◌, List, [], ◌∷◌, arith, eqb-true, ltb-true, leb-true}
use Rattle.std.proofs.Common.{ne_eqb, T, eqb, leb, ltb, ltb→lt, get_or}
use Rattle.cdf_unit_table.specs.Ids.{ids_end}
use Rattle.cdf_unit_table.specs.States.{Row, rows, states_end, admit, admits, admits_kind, unit_of, opens, nothing}
use Rattle.cdf_unit_table.specs.Heights.{heights, height, height_in}
use Rattle.cdf_unit_table.proofs.Bools.{both}
use Rattle.cdf_unit_table.proofs.Tests.{and_left, and_right, is_true, all, below_at}
use Rattle.cdf_unit_table.proofs.Match.{else_at}
use Rattle.cdf_unit_table.proofs.Rows.{from_rows, any_row_lem, none_opens}

-- The height of what a unit of each id admits.
abbrev levels : List ℕ
levels = 0 ∷ 3 ∷ 0 ∷ 0 ∷ 2 ∷ 0 ∷ 0 ∷ 0 ∷ 0 ∷ 1 ∷ 1 ∷ 0 ∷ 0 ∷ 0 ∷ 0 ∷ []

unfoldable pub level : ℕ → ℕ
level id = get_or levels id 0

pub record Admitted (state child next : ℕ) : Type 0 where
  -- of the height of all that the unit admits,
  pub alike : height child ≡ level (unit_of state)
  -- below that of the unit,
  pub below : height child < height_in state
  -- which stays the same unit
  pub stays : unit_of next ≡ unit_of state
  pub same : height_in next ≡ height_in state

-- what each row is to pass
abbrev lower : Row → Bool
lower r =
    eqb (height r.child) (level (unit_of r.state))
    && (ltb (height r.child) (height_in r.state) && eqb (unit_of r.next) (unit_of r.state))

row_lower : (r : Row) → T (lower r) → Admitted r.state r.child r.next
unfolding height_in
row_lower r t =
    let w = both (eqb (height r.child) (level (unit_of r.state))) _ (is_true _ t) in
    let x = both (ltb (height r.child) (height_in r.state)) (eqb (unit_of r.next) (unit_of r.state)) w.1 in
    let stays = eqb-true (unit_of r.next) (unit_of r.state) x.1 in
    record {
      alike = eqb-true (height r.child) (level (unit_of r.state)) w.0;
      below = ltb-true (height r.child) (height_in r.state) x.0;
      stays = stays;
      same = rw stays;
    }

pub admit_lower : (state child : ℕ) → (admit state child ≡ 0 → ⊥) → Admitted state child (admit state child)
unfolding admit height_in height level unit_of
admit_lower state child some =
    from_rows (λ n. (n ≡ 0 → ⊥) → Admitted state child n) lower state child (λ no. absurd (no refl))
    (λ r t d e no. rw (d, e) at (row_lower r t)) rows tt some

pub falls : (state child next : ℕ) → admits false state child ≡ next → (next ≡ 0 → ⊥) → Admitted state child next
unfolding admits
falls state child next e some = rw e at (admit_lower state child (rw e some))

-- Of a unit that admits others: what it admits is lower, and its first state is its own.
pub record Opens (id : ℕ) : Type 0 where
  pub lower : level id < height id
  pub own : unit_of (nothing id) ≡ id
  pub same : height_in (nothing id) ≡ height id

opening : ℕ → Bool
opening id = ltb (level id) (height id) && eqb (unit_of (nothing id)) id

pub opens_lower : (id : ℕ) → opens id ≡ true → Opens id
unfolding opening opens height level height_in unit_of nothing
opens_lower id e =
    let t = else_at (λ k. not (opens k) || opening k) [] ids_end tt (λ k h. rw (none_opens k h) tt) id tt in
    let w = both (ltb (level id) (height id)) (eqb (unit_of (nothing id)) id) (is_true (opening id) (rw e at t)) in
    let own = eqb-true (unit_of (nothing id)) id w.1 in
    record { lower = ltb-true (level id) (height id) w.0; own = own; same = rw own }

at_any : (f : ℕ → Bool) (xs : List ℕ) (d : ℕ) → T (all f xs) → T (f d) → (k : ℕ) → T (f (get_or xs k d))
at_any f [] d t o k = o
at_any f (x ∷ xs) d t o zero = and_left (f x) (all f xs) t
at_any f (x ∷ xs) d t o (suc k) = at_any f xs d (and_right (f x) (all f xs) t) o k

pub height_most : (id : ℕ) → height id < 5
unfolding height
height_most id = ltb→lt (height id) 5 (at_any (λ n. ltb n 5) heights 0 tt tt id)

-- A kind that a unit admits is lower.
pub kind_lower : (unit child : ℕ) → admits_kind unit child ≡ true → height child < height unit
unfolding admits_kind height unit_of
kind_lower unit child e =
    any_row_lem (λ r. eqb (unit_of r.state) unit && eqb r.child child) (λ r. ltb (height r.child) (height (unit_of r.state)))
    (height child < height unit) rows tt e
    (λ r t h.
    let w = both (eqb (unit_of r.state) unit) (eqb r.child child) h in
    rw (eqb-true (unit_of r.state) unit w.0, eqb-true r.child child w.1) at (ltb→lt (height r.child) (height (unit_of r.state)) t))

-- A unit that admits others is above the lowest.
pub state_high : (state : ℕ) → (leb 1 state && ltb state states_end) ≡ true → 0 < height_in state
unfolding height_in height unit_of
state_high state e =
    let low = both (leb 1 state) (ltb state states_end) e in
    let t = below_at (λ k. eqb k 0 || ltb 0 (height_in k)) states_end tt state (ltb-true state states_end low.1) in
    ltb→lt 0 (height_in state) (rw (ne_eqb state 0 (λ z. omega (arith, leb-true 1 state low.0))) at t)
