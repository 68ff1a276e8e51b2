-- The pairs of the entries are the runs' pairs, padded.
use Rattle.std.proofs.Common.{ℕ, zero, suc, ◌+◌, ◌-◌, ◌*◌, ◌≤◌, ◌≡◌, refl, sym, ap, ◌∙◌, List, [], ◌∷◌, ◌++◌, arith, length, replicate, length-append}
use Rattle.std.proofs.lemmas.List.{length-replicate, nil_from_length}
use Rattle.std.specs.Prelude.{Ok}
use Rattle.cdf_unit_table.specs.Entries.{padded}
use Rattle.cdf_rescue_spec.specs.Salvage.{Rescued, refusal}
use Rattle.cdf_rescue_spec.specs.declared.Run.{Run}
use Rattle.cdf_rescue.specs.Numbers.{entries, Told, report_of, told_of}
use Rattle.cdf_rescue.specs.declared.Report.{Report}
use Rattle.cdf_rescue_c.specs.Answer.{pairs, answer_of}

abbrev pub none : Run
none = record { from = 0; to = 0 }

abbrev twice : ℕ → ℕ
twice zero = 0
twice (suc n) = suc (suc (twice n))

twice_is : (n : ℕ) → twice n ≡ 2 * n
twice_is zero = refl
twice_is (suc n) = rw (twice_is n) (omega arith)

zeros : (n : ℕ) → pairs (replicate n none) ≡ replicate (twice n) 0
zeros zero = refl
zeros (suc n) = ap (λ xs. 0 ∷ 0 ∷ xs) (zeros n)

pairs_on : (rs qs : List Run) → pairs (rs ++ qs) ≡ pairs rs ++ pairs qs
pairs_on [] qs = refl
pairs_on (r ∷ rs) qs = ap (λ xs. r.from ∷ r.to ∷ xs) (pairs_on rs qs)

pairs_long : (rs : List Run) → length (pairs rs) ≡ 2 * length rs
pairs_long [] = refl
pairs_long (r ∷ rs) = rw (pairs_long rs) (omega arith)

pairs_padded : (rs : List Run) → length rs ≤ 64 → pairs (entries rs) ≡ padded 128 (pairs rs)
pairs_padded rs h =
    let left : twice (64 - length rs) ≡ 128 - length (pairs rs) = omega (arith, twice_is (64 - length rs), pairs_long rs) in
    pairs_on rs (replicate (64 - length rs) none) ∙ rw (zeros (64 - length rs), left)

-- What is 64 runs once it is padded was no more before.
entries_few : (rs : List Run) → length (entries rs) ≡ 64 → length rs ≤ 64
entries_few rs e = omega (arith, simp (length-append, length-replicate) at e)

pub written_is : (r : Rescued) (told : Report) → told_of (Ok told) ≡ report_of r → length told.runs ≡ 64 →
    told.size ∷ told.count ∷ pairs told.runs ≡ answer_of r
unfolding report_of answer_of
written_is r told is all =
    let few : length r.runs ≤ 64 = entries_few r.runs (rw (ap (λ (t : Told). t.runs) is) at all) in
    ap (λ (t : Told). t.size ∷ t.count ∷ pairs t.runs) is
    ∙ ap (λ xs. length r.group ∷ length r.runs ∷ xs) (pairs_padded r.runs few)

-- A refusal's entries are zeros.
pub refused_is : (r : Rescued) (n : ℕ) → report_of (refusal n) ≡ report_of r → replicate 130 0 ≡ answer_of r
unfolding report_of answer_of
refused_is r n e =
    let size : length r.group ≡ 0 = sym (ap (λ (t : Told). t.size) e) in
    let none = nil_from_length r.runs (sym (ap (λ (t : Told). t.count) e)) in
    rw (size, none)
