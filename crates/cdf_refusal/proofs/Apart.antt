-- The refusals by their numbers.
use Rattle.std.specs.Prelude.{ℕ, ◌≡◌, refl, List, [], ◌∷◌, get_or}
use Rattle.std.proofs.Common.{arith, ap, sym, subst, ◌∙◌}
use Rattle.cdf_refusal.specs.declared.Refusal.{Refusal}
use Rattle.cdf_refusal.specs.declared.Refusal.TheVariants.{Ended, Place, Short, Mark, Length, UnknownId, NotAdmitted, Action, OwnData, Incomplete, NoUse}
use Rattle.cdf_refusal.specs.declared.Refusal.TheVariants.{NoRoom, TooLong, NoGroup, NoValue, NothingKept, TooManyRuns, TooManyTemplates}
use Rattle.cdf_refusal.specs.declared.Refusal.TheVariants.{DoubledTemplate, NoTemplate, TooManyRequests, NoStep}
use Rattle.cdf_refusal.specs.Numbers.{number_of}

abbrev refusals : List Refusal
refusals = NoStep ∷ Ended ∷ Place ∷ Short ∷ Mark ∷ Length ∷ UnknownId ∷ NotAdmitted ∷ Action ∷
    OwnData ∷ Incomplete ∷ NoUse ∷ NoRoom ∷ TooLong ∷ NoGroup ∷ NoValue ∷
    NothingKept ∷ TooManyRuns ∷ TooManyTemplates ∷ DoubledTemplate ∷ NoTemplate ∷ TooManyRequests ∷ []

-- What a number stands for; the last, where it stands for nothing.
abbrev refusal_by : ℕ → Refusal
refusal_by n = get_or refusals n NoStep

by_number : (a : Refusal) → refusal_by (number_of a) ≡ a
by_number Ended = refl
by_number Place = refl
by_number Short = refl
by_number Mark = refl
by_number Length = refl
by_number UnknownId = refl
by_number NotAdmitted = refl
by_number Action = refl
by_number OwnData = refl
by_number Incomplete = refl
by_number NoUse = refl
by_number NoRoom = refl
by_number TooLong = refl
by_number NoGroup = refl
by_number NoValue = refl
by_number NothingKept = refl
by_number TooManyRuns = refl
by_number TooManyTemplates = refl
by_number DoubledTemplate = refl
by_number NoTemplate = refl
by_number TooManyRequests = refl
by_number NoStep = refl

pub apart : (a b : Refusal) → number_of a ≡ number_of b → a ≡ b
apart a b e = sym (by_number a) ∙ ap refusal_by e ∙ by_number b

-- One that 0 told would be the last, which 99 tells.
pub refuses : (a : Refusal) → number_of a ≡ 0 → ⊥
refuses a e = let told : number_of NoStep ≡ 0 = subst (λ r. number_of r ≡ 0) (sym (by_number a) ∙ ap refusal_by e) e in
    absurd (omega arith)
