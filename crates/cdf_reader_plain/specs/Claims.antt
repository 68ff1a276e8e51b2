-- Demand 3, and what is proved besides of runs of the reader. The terms of these records stand in proofs/Proved and, of the
-- written-out runs, in proofs/Examples.
use Rattle.std.specs.Prelude.{ℕ, suc, ◌*◌, ◌≤◌, ◌<◌, ◌≡◌, true, List, [], ◌∷◌, ◌↔◌, length, replicate}
use Rattle.cdf_unit_prefix.specs.Layout.{Layout, layout_of, prefix_of}
use Rattle.cdf_unit_prefix.specs.declared.Edition.{Edition}
use Rattle.cdf_unit_prefix.specs.declared.Edition.TheVariants.{First}
use Rattle.cdf_unit_list.specs.Units.{listing}
use Rattle.cdf_unit_list.specs.Ranks.{ranked_units}
use Rattle.cdf_unit_list.specs.Check.{check_of}
use Rattle.cdf_unit_list.specs.Samples.{k2, k12}
use Rattle.cdf_unit_list.specs.declared.Ranked.{Ranked}
use Rattle.cdf_unit_list.specs.declared.Open.{Open}
use Rattle.cdf_grammar.specs.Trees.{Forest}
use Rattle.cdf_grammar.specs.Encoding.{Stream}
use Rattle.cdf_reader_spec.specs.Place.{ReaderPlace, fits}
use Rattle.cdf_reader_spec.specs.Calls.{Reply, empty_place, refuse, first_of, next_of, skip_of, take_of, part_of, previous_of}
use Rattle.cdf_reader_spec.specs.declared.Call.{Call}
use Rattle.cdf_reader_spec.specs.declared.Call.TheVariants.{Start, Next, GetStream}
use Rattle.cdf_reader_plain.specs.Calls.{handing}
use Rattle.cdf_reader_plain.specs.Runs.{reader_run, tells_after, plain_run, following, number_at, bytes_in}
use Rattle.cdf_reader_plain.specs.Nexts.{handing_all, ever_after, zeros}
use Rattle.cdf_reader_plain.specs.Samples.{group, template, key, field, k2_calls, k2_answers}
use Rattle.cdf_reader_plain.specs.Samples.{stream, call, k12_calls, k12_answers, k6, k6_calls, k6_answers}

-- Demand 3, first half. The bytes s have the unit list `first` and the `rest`, each unit with its depth and rank, and are read from a start
-- on, by any calls, refused ones too. A run is the list of what is told of each call: number and offset, the part taken, the unit handed out.
pub record Reads (l : Layout) (s : List ℕ) (first : Ranked) (rest : List Ranked) : Type 0 where
  -- The reader and the plain reader give equal lists of answers.
  pub answers : (calls : List Call) → reader_run l s empty_place (Start ∷ calls) ≡ plain_run first rest calls
  -- So no call answers with a number from 2 to 10: the k-th does not, for any k.
  pub numbers : (calls : List Call) (k : ℕ) → let n = number_at k (reader_run l s empty_place (Start ∷ calls)) in 1 < n → 10 < n
  -- NEXT hands out the unit after the last one, or after all inside it if that was skipped or taken;
  pub follows : (calls : List Call) (u : Ranked) (us : List Ranked) → following first rest calls ≡ u ∷ us → tells_after l s calls Next ≡ handing u
  -- it reports the end exactly where no unit follows.
  pub ends : (calls : List Call) → ((tells_after l s calls Next).number ≡ 1) ↔ (following first rest calls ≡ [])
  -- A part that GET_STREAM takes is a stream of its own.
  pub taken : (calls : List Call) → (tells_after l s calls GetStream).number ≡ 0 →
      (t : Forest) × Stream l (bytes_in s (tells_after l s calls GetStream).part) t

-- A place that is returned with 0 fits the bytes.
abbrev pub Fits : Layout → List ℕ → Reply → Type 0
Fits l s r = r.number ≡ 0 → fits l (length s) r.place ≡ true

-- At a place that is returned with 0, PREVIOUS gives the same answer: the unit with its depth and rank, and the place.
abbrev pub Again : Layout → List ℕ → Reply → Type 0
Again l s r = r.number ≡ 0 → previous_of l s r.place ≡ r

pub record Claims : Type 0 where
  -- So is every stream of the published grammar read, in each edition: it has a first unit.
  pub reads : (e : Edition) (s : List ℕ) (t : Forest) → Stream (layout_of e) s t →
      (first : Ranked) × (rest : List Ranked) × (ranked_units (layout_of e) s ≡ first ∷ rest) × Reads (layout_of e) s first rest
  -- Demand 3, second half. Of any bytes with a listed unit: a start and k NEXTs hand out the unit list, and after it they tell for ever
  -- the end where the check accepts, else the check's number and offset.
  pub nexts : (l : Layout) (s : List ℕ) → ((listing l s).units ≡ [] → ⊥) → (k : ℕ) →
      reader_run l s empty_place (Start ∷ replicate k Next) ≡ handing_all (suc k) (ranked_units l s) (ever_after (check_of l s))
  -- They hand out at most n / 6 units of any n bytes; in another layout, n by its prefix.
  pub few : (l : Layout) (s : List ℕ) (k : ℕ) → zeros (reader_run l s empty_place (Start ∷ replicate k Next)) * prefix_of l ≤ length s
  -- Of any bytes and any place:
  pub skip_fits : (l : Layout) (s : List ℕ) (p : ReaderPlace) → Fits l s (skip_of l s p)
  pub take_fits : (l : Layout) (s : List ℕ) (p : ReaderPlace) → Fits l s (take_of l s p)
  pub previous_fits : (l : Layout) (s : List ℕ) (p : ReaderPlace) → Fits l s (previous_of l s p)
  -- So it is of a start and of NEXT: the unit that they handed out is the one that PREVIOUS does.
  pub again : (l : Layout) (s : List ℕ) (p : ReaderPlace) → Again l s (first_of l s) × Again l s (next_of l s p)
  -- After SKIP of a root, NEXT reports the end, whatever the bytes.
  pub skipped_root : (l : Layout) (s : List ℕ) (p : ReaderPlace) (o : Open) → p.units ≡ o ∷ [] → (skip_of l s p).number ≡ 0 →
      next_of l s (skip_of l s p).place ≡ refuse 1 0 (skip_of l s p).place
  -- SKIP and GET_STREAM look at no byte: of other bytes, as many, they answer the same.
  pub skip_blind : (l : Layout) (s s' : List ℕ) → length s ≡ length s' → (p : ReaderPlace) →
      (skip_of l s p ≡ skip_of l s' p) × (take_of l s p ≡ take_of l s' p) × (part_of l s p ≡ part_of l s' p)

-- Runs with each answer written out.
pub record Examples : Type 0 where
  -- With every call, and with refused ones: both readers give these answers.
  pub example_k2 :
      (ranked_units (layout_of First) k2 ≡ group ∷ template ∷ key ∷ field ∷ [])
      × (reader_run (layout_of First) k2 empty_place (Start ∷ k2_calls) ≡ k2_answers)
      × (plain_run group (template ∷ key ∷ field ∷ []) k2_calls ≡ k2_answers)
  pub example_k12 :
      (ranked_units (layout_of First) k12 ≡ stream ∷ call ∷ [])
      × (reader_run (layout_of First) k12 empty_place (Start ∷ k12_calls) ≡ k12_answers)
      × (plain_run stream (call ∷ []) k12_calls ≡ k12_answers)
  -- A group with a damaged line: NEXT tells what is wrong with it, and SKIP and GET_STREAM pass it.
  pub example_k6 : reader_run (layout_of First) k6 empty_place (Start ∷ k6_calls) ≡ k6_answers
