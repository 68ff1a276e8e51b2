-- By the tests of the code, and at an entry by the entry.
use Rattle.std.proofs.Common.{ℕ, zero, suc, ◌+◌, ◌*◌, ◌-◌, ◌≡◌, refl, sym, ap, ◌∙◌, Bool, true, false, cond, ◌||◌, true≢false, List, arith}
use Rattle.std.proofs.lemmas.Bool.{false≢true}
use Rattle.std.specs.Prelude.{Some, ltb, get_or}
use Rattle.cdf_unit_table.specs.States.{some_state}
use Rattle.cdf_table_reader_spec.specs.Table.{looked}
use Rattle.cdf_table_reader_judge.proofs.TableAdmits.admit.Goals as goal

none_of : (a b c : Bool) (x : ℕ) → (a || (b || c)) ≡ true → 0 ≡ cond a 0 (cond b 0 (cond c 0 x))
none_of true b c x e = refl
none_of false true c x e = refl
none_of false false true x e = refl
none_of false false false x e = absurd (false≢true e)

entry_of : (a b c : Bool) (x : ℕ) → (a || (b || c)) ≡ false → x ≡ cond a 0 (cond b 0 (cond c 0 x))
entry_of true b c x e = absurd (true≢false e)
entry_of false true c x e = absurd (true≢false e)
entry_of false false true x e = absurd (true≢false e)
entry_of false false false x e = refl

module _ (table : List ℕ) (state id : ℕ) where
  abbrev Outside : Bool
  Outside = ltb 30 state || (ltb id 1 || ltb 14 id)

  outside : Outside ≡ true → 0 ≡ looked table state id
  unfolding looked
  outside e = none_of (ltb 30 state) (ltb id 1) (ltb 14 id) (get_or table (state * 14 + (id - 1)) 0) e

  entry : Outside ≡ false → get_or table (state * 14 + (id - 1)) 0 ≡ looked table state id
  unfolding looked
  entry e = entry_of (ltb 30 state) (ltb id 1) (ltb 14 id) (get_or table (state * 14 + (id - 1)) 0) e

shown : (n : ℕ) → (n ≡ 0 → ⊥) → Some n ≡ some_state n
shown zero some = absurd (some refl)
shown (suc n) some = refl

pub returns-then-state-id : goal.returns-then-state-id
returns-then-state-id c = ap some_state (outside c.args.self.now.0.now c.args.state c.args.id c.if-state-id.true)

pub returns-in-0 : goal.returns-in-0
returns-in-0 c = ap some_state (sym c.in-0.is ∙ entry c.args.self.now.0.now c.args.state c.args.id c.if-state-id.false)

pub returns-in_default : goal.returns-in_default
returns-in_default c = shown _ (λ z. omega arith) ∙ ap some_state (entry c.args.self.now.0.now c.args.state c.args.id c.if-state-id.false)
