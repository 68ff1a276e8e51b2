-- What a call came to, with the answer's numbers as they are written.
use Rattle.std.proofs.Common.{ℕ, ◌≡◌, refl, sym, true, false, true≢false, List, ne_eqb}
use Rattle.std.specs.Prelude.{Result, Ok, Err}
use Rattle.cdf_refusal.specs.Numbers.{number_of}
use Rattle.cdf_refusal.specs.declared.Fault.{Fault}
use Rattle.cdf_refusal.proofs.Apart.{refuses}
use Rattle.cdf_unit_list.specs.declared.Ranked.{Ranked}
use Rattle.cdf_reader_spec.specs.Calls.{Reply, Part, no_part, no_ranked, empty_place, refuse, is_start}
use Rattle.cdf_reader_spec.specs.declared.Call.{Call}
use Rattle.cdf_reader_spec.specs.declared.Call.TheVariants.{Start, Next, Skip, GetStream, Previous}
use Rattle.cdf_reader.specs.View.{view, reply_of, reply_from}
use Rattle.cdf_reader.specs.Uses.{place_kept, Again}
use Rattle.cdf_reader.specs.declared.Place.{Place}
use Rattle.cdf_reader.specs.declared.Answer.{Answer}
use Rattle.cdf_reader_numbers.specs.Numbers.{place_from, answer_numbers, reply_to, keeps}
use Rattle.cdf_reader_numbers.specs.Taking.{part_by}
use Rattle.cdf_reader_numbers.proofs.Calling.{Answered, no_part_by}

-- A refused start does not keep the place's numbers; any other call does.
pub started : (c : Call) (n : ℕ) → is_start c ≡ true → keeps c n ≡ false
started Start n e = refl
started Next n e = absurd (true≢false (sym e))
started Skip n e = absurd (true≢false (sym e))
started GetStream n e = absurd (true≢false (sym e))
started Previous n e = absurd (true≢false (sym e))

pub unstarted : (c : Call) (n : ℕ) → is_start c ≡ false → (n ≡ 0 → ⊥) → keeps c n ≡ true
unstarted Start n e some = absurd (true≢false e)
unstarted Next n e some = rw (ne_eqb n 0 some) refl
unstarted Skip n e some = rw (ne_eqb n 0 some) refl
unstarted GetStream n e some = rw (ne_eqb n 0 some) refl
unstarted Previous n e some = refl

-- The reply of which the answer's numbers are those of an offset and a unit.
abbrev Written : ℕ → Ranked → Reply
Written offset handed = record { number = 0; offset = offset; handed = handed; place = empty_place }

module _ (c : Call) (s before : List ℕ) (told : Result Answer Fault)
    (due : reply_from (place_kept c (place_from before)) told ≡ reply_to c s before) (again : c ≡ Previous → Again (place_from before) told) where
  abbrev p : Place
  p = place_from before

  pub handed : (a : Answer) → told ≡ Ok a → (part : Part) → part ≡ part_by c 0 p.last.start p.last.end → (answer : List ℕ) →
      answer ≡ answer_numbers (Written 0 a.handed) part → Answered c s before 0 a.place (reply_of a) answer
  handed a is part by answer w = record {
    place = p;
    read = refl;
    due = rw is at due;
    told = refl;
    at = refl;
    kept = λ some. absurd (some refl);
    again = λ e. rw is at (again e);
    part = part;
    by = by;
    written = w;
  }

  pub refused : (f : Fault) → told ≡ Err f → (answer : List ℕ) → answer ≡ answer_numbers (Written f.offset no_ranked) no_part →
      Answered c s before (number_of f.refusal) (place_kept c p) (refuse (number_of f.refusal) f.offset (view (place_kept c p))) answer
  refused f is answer w = record {
    place = p;
    read = refl;
    due = rw is at due;
    told = refl;
    at = refl;
    kept = λ some. refl;
    again = λ e. rw e refl;
    part = no_part;
    by = no_part_by c _ _ _ (refuses f.refusal);
    written = w;
  }
