-- Rules of the rows and of the parents that a `match` on a state or an id states arm by arm, each proved once by a test that
-- antt computes over all of them.
use Rattle.std.proofs.Common.{ℕ, ◌≤◌, ◌<◌, ◌≡◌, refl, sym, subst, ◌∙◌, Bool, true, false, not, cond, ◌&&◌, ◌||◌, List, [], ◌∷◌, ⊎_elim, eq-eqb}
use Rattle.std.proofs.Common.{ne_eqb, eqb-true, leb-true, le-leb, ltb-true, ltb-false, lt-ltb, arith, T, eqb, ltb, leb, ltb→lt}
use Rattle.std.proofs.lemmas.Bool.{false≢true, lt-leb}
use mathlib.Core.Bool.{and-false}
use Rattle.cdf_unit_table.specs.Ids.{member, stream, er_group, file_group, ids_end}
use Rattle.cdf_unit_table.specs.States.{Row, rows, admit_from, admit, admits, root_kind, any_row, admits_kind}
use Rattle.cdf_unit_table.specs.States.{Parent, parents, pick, nothing, opens, unit_of, states_end}
use Rattle.cdf_unit_table.proofs.Bools.{both, either}
use Rattle.cdf_unit_table.proofs.Tests.{and_left, and_right, is_true}
use Rattle.cdf_unit_table.proofs.Match.{Rest, member_of, differs, each, among}
use Rattle.cdf_unit_table.proofs.Tables.{up_to, same}

abbrev pub all_rows : (Row → Bool) → List Row → Bool
all_rows f [] = true
all_rows f (r ∷ rs) = f r && all_rows f rs

-- What admission leads to has what 0 has and what each row for it gives, where each row passes a test.
pub from_rows : (P : ℕ → Type 0) (f : Row → Bool) (s c : ℕ) → P 0 →
    ((r : Row) → T (f r) → r.state ≡ s → r.child ≡ c → P r.next) → (rs : List Row) → T (all_rows f rs) →
    P (admit_from rs s c)
unfolding admit_from
from_rows P f s c z row [] t = z
from_rows P f s c z row (r ∷ rs) t =
    go (eqb r.state s) (eqb r.child c) refl refl (from_rows P f s c z row rs (and_right (f r) (all_rows f rs) t))
  where
    go : (a b : Bool) → eqb r.state s ≡ a → eqb r.child c ≡ b → P (admit_from rs s c) →
        P (cond (a && b) r.next (admit_from rs s c))
    go true true d e p = row r (and_left (f r) (all_rows f rs) t) (eqb-true r.state s d) (eqb-true r.child c e)
    go true false d e p = p
    go false b d e p = p

pub admits_nested : (s c : ℕ) → admits false s c ≡ admit s c
unfolding admits
admits_nested s c = refl

pub admits_root : (s c : ℕ) → root_kind c ≡ true → admits true s c ≡ nothing c
unfolding admits
admits_root s c e = rw e

-- What is admitted as a root is of a root's kind,
pub root_kind_lem : (s c : ℕ) → (admits true s c ≡ 0 → ⊥) → root_kind c ≡ true
unfolding admits
root_kind_lem s c some = go (root_kind c) some
  where
    go : (b : Bool) → (cond b (nothing c) 0 ≡ 0 → ⊥) → b ≡ true
    go true some = refl
    go false some = absurd (some refl)

-- and the state told is its first.
pub root_first : (s c n : ℕ) → admits true s c ≡ n → (n ≡ 0 → ⊥) → n ≡ nothing c
root_first s c n e some = sym e ∙ admits_root s c (root_kind_lem s c (λ z. some (sym e ∙ z)))

-- What admission leads to is a state or 0.
pub admit_below : (s c : ℕ) → admit s c < states_end
unfolding admit
admit_below s c =
    from_rows (λ n. n < states_end) (λ r. ltb r.next states_end) s c (omega arith) (λ r t d e. ltb→lt r.next states_end t) rows tt

-- A number past the states admits nothing.
pub admit_past : (s c : ℕ) → states_end ≤ s → admit s c ≡ 0
unfolding admit
admit_past s c h =
    from_rows (λ n. n ≡ 0) (λ r. ltb r.state states_end) s c refl
    (λ r t d e. absurd (omega (arith, ltb→lt r.state states_end t))) rows tt

-- A number past the ids is not admitted.
pub admit_unknown : (s c : ℕ) → ids_end ≤ c → admit s c ≡ 0
unfolding admit
admit_unknown s c h =
    from_rows (λ n. n ≡ 0) (λ r. ltb r.child ids_end) s c refl
    (λ r t d e. absurd (omega (arith, ltb→lt r.child ids_end t))) rows tt

-- 0 is no unit's id.
pub admit_none : (s : ℕ) → admit s 0 ≡ 0
unfolding admit
admit_none s = from_rows (λ n. n ≡ 0) (λ r. ltb 0 r.child) s 0 refl (λ r t d e. absurd (omega (arith, ltb→lt 0 r.child t))) rows tt

-- A child leads from each state of a range to one state, and from no other.
pub ranged : (from to next c : ℕ) → to < states_end →
    up_to (λ s. cond (leb from s && leb s to) next 0) states_end ≡ up_to (λ s. admit s c) states_end → (s : ℕ) →
    cond (leb from s && leb s to) next 0 ≡ admit s c
ranged from to next c low e =
    same (λ s. cond (leb from s && leb s to) next 0) (λ s. admit s c) states_end e
    (λ s h. rw (lt-leb s to (omega arith), and-false, admit_past s c h))

-- It is admitted in none but these.
pub no_state : (kss : List (List ℕ)) (c : ℕ) → T (all_rows (λ r. not (eqb r.child c) || member_of kss r.state) rows) →
    (s : ℕ) → Rest kss s → 0 ≡ admit s c
unfolding admit member
no_state kss c t s rest =
    from_rows (λ n. 0 ≡ n) (λ r. not (eqb r.child c) || member_of kss r.state) s c refl
    (λ r p d e. absurd (differs kss r.state s (rw (eq-eqb r.child c e) at p) rest (sym d))) rows t

-- None but these is admitted anywhere.
pub no_child : (kss : List (List ℕ)) → T (all_rows (λ r. member_of kss r.child) rows) → (s c : ℕ) → Rest kss c → 0 ≡ admit s c
unfolding admit member
no_child kss t s c rest =
    from_rows (λ n. 0 ≡ n) (λ r. member_of kss r.child) s c refl
    (λ r p d e. absurd (differs kss r.child c p rest (sym e))) rows t

abbrev pub all_parents : (Parent → Bool) → List Parent → Bool
all_parents f [] = true
all_parents f (p ∷ ps) = f p && all_parents f ps

-- What is picked has what 0 has and what each parent that may be picked gives, where each parent passes a test.
pub from_parents : (P : ℕ → Type 0) (f test : Parent → Bool) (of : Parent → ℕ) → P 0 →
    ((p : Parent) → T (f p) → test p ≡ true → P (of p)) → (ps : List Parent) → T (all_parents f ps) → P (pick test of ps)
unfolding pick
from_parents P f test of z found [] t = z
from_parents P f test of z found (p ∷ ps) t =
    go (test p) refl (from_parents P f test of z found ps (and_right (f p) (all_parents f ps) t))
  where
    go : (b : Bool) → test p ≡ b → P (pick test of ps) → P (cond b (of p) (pick test of ps))
    go true e rest = found p (and_left (f p) (all_parents f ps) t) e
    go false e rest = rest

-- None but these admits others.
pub no_parent : (kss : List (List ℕ)) → T (all_parents (λ p. member_of kss p.id) parents) → (id : ℕ) → Rest kss id → 0 ≡ nothing id
unfolding nothing member
no_parent kss t id rest =
    from_parents (λ n. 0 ≡ n) (λ p. member_of kss p.id) (λ p. eqb p.id id) (λ p. p.first) refl
    (λ p x e. absurd (differs kss p.id id x rest (sym (eqb-true p.id id e)))) parents t

-- A number past the ids admits no others.
pub none_begins : (id : ℕ) → ids_end ≤ id → nothing id ≡ 0
unfolding nothing
none_begins id h =
    from_parents (λ n. n ≡ 0) (λ p. ltb p.id ids_end) (λ p. eqb p.id id) (λ p. p.first) refl
    (λ p x e. absurd (omega (arith, ltb→lt p.id ids_end x, eqb-true p.id id e))) parents tt

pub none_opens : (id : ℕ) → ids_end ≤ id → opens id ≡ false
unfolding opens
none_opens id h = rw (none_begins id h)

-- A root admits others.
pub root_opens : (id : ℕ) → root_kind id ≡ true → nothing id ≡ 0 → ⊥
unfolding root_kind nothing
root_opens id e =
    let kinds = stream ∷ er_group ∷ file_group ∷ [] in
    each (λ k. nothing k ≡ 0 → ⊥) kinds ((λ z. omega arith), ((λ z. omega arith), ((λ z. omega arith), tt))) id
    (among kinds id id (subst T (sym e) tt) refl)

-- It admits others exactly if it has a first state.
pub opens_by : (id n : ℕ) → n ≡ nothing id → (n ≡ 0 → ⊥) → opens id ≡ true
unfolding opens
opens_by id n e some = rw (← e, ne_eqb n 0 some)

pub leaf_by : (id n : ℕ) → n ≡ nothing id → n ≡ 0 → opens id ≡ false
unfolding opens
leaf_by id n e z = rw (← e, eq-eqb n 0 z)

-- A number past the states is no unit's.
pub no_unit : (s : ℕ) → states_end ≤ s → unit_of s ≡ 0
unfolding unit_of
no_unit s h =
    from_parents (λ n. n ≡ 0) (λ p. ltb p.last states_end) (λ p. leb p.first s && leb s p.last) (λ p. p.id) refl
    (λ p t e. absurd (omega (arith, ltb→lt p.last states_end t, leb-true s p.last (both (leb p.first s) _ e).1))) parents tt

-- No row passes a test that each fails.
any_none : (f x : Row → Bool) → ((r : Row) → T (x r) → f r ≡ false) → (rs : List Row) → T (all_rows x rs) → any_row f rs ≡ false
unfolding any_row
any_none f x out [] t = refl
any_none f x out (r ∷ rs) t =
    rw (out r (and_left (x r) (all_rows x rs) t)) (any_none f x out rs (and_right (x r) (all_rows x rs) t))

-- What is no unit admits no kind, and no unit admits it.
pub admits_none : (u v : ℕ) → u ≡ 0 → admits_kind u v ≡ false
unfolding admits_kind unit_of
admits_none u v z =
    any_none (λ r. eqb (unit_of r.state) u && eqb r.child v) (λ r. ltb 0 (unit_of r.state))
    (λ r t. rw (ne_eqb (unit_of r.state) u (λ e. absurd (omega (arith, ltb→lt 0 (unit_of r.state) t))))) rows tt

pub none_admits : (u v : ℕ) → v ≡ 0 → admits_kind u v ≡ false
unfolding admits_kind unit_of
none_admits u v z =
    any_none (λ r. eqb (unit_of r.state) u && eqb r.child v) (λ r. ltb 0 r.child)
    (λ r t. rw (ne_eqb r.child v (λ e. absurd (omega (arith, ltb→lt 0 r.child t))), and-false)) rows tt

-- A row that passes, where one does, has what each row passes.
pub any_row_lem : (f x : Row → Bool) (P : Type 0) → (rs : List Row) → T (all_rows x rs) → any_row f rs ≡ true →
    ((r : Row) → T (x r) → f r ≡ true → P) → P
unfolding any_row
any_row_lem f x P [] t e found = absurd (false≢true e)
any_row_lem f x P (r ∷ rs) t e found =
    ⊎_elim (λ h. found r (and_left (x r) (all_rows x rs) t) h) (λ h. any_row_lem f x P rs (and_right (x r) (all_rows x rs) t) h found)
    (either (f r) (any_row f rs) e)

-- A number that is some unit's is a state.
pub unit_state : (s : ℕ) → (unit_of s ≡ 0 → ⊥) → (leb 1 s && ltb s states_end) ≡ true
unfolding unit_of
unit_state s some = rw (le-leb 1 s (omega (arith, low)), lt-ltb s states_end (high (ltb s states_end) refl))
  where
    low : s ≡ 0 → ⊥
    low z = some (rw z)

    high : (b : Bool) → ltb s states_end ≡ b → s < states_end
    high true e = ltb-true s states_end e
    high false e = absurd (some (no_unit s (ltb-false s states_end e)))

-- What a unit admits in some state is of a kind that it admits.
rows_kinds : T (all_rows (λ r. admits_kind (unit_of r.state) r.child) rows)
unfolding admits_kind unit_of
rows_kinds = tt

pub admit_kind : (s c : ℕ) → (admits false s c ≡ 0 → ⊥) → admits_kind (unit_of s) c ≡ true
unfolding admits
admit_kind s c some =
    from_rows (λ n. (n ≡ 0 → ⊥) → admits_kind (unit_of s) c ≡ true) (λ r. admits_kind (unit_of r.state) r.child) s c
    (λ no. absurd (no refl)) (λ r t d e no. rw (d, e) at (is_true (admits_kind (unit_of r.state) r.child) t)) rows rows_kinds some
