-- What is claimed of what a lookup answers. The term of this record stands in proofs/Proved.
use Rattle.std.specs.Prelude.{ℕ, ◌≡◌, List, ◌⊎◌, ◌↔◌}
use Rattle.cdf_unit_prefix.specs.Layout.{Layout}
use Rattle.cdf_unit_list.specs.Check.{check_of}
use Rattle.cdf_grammar.specs.Claims.{Accepted}
use Rattle.cdf_lookup_spec.specs.Find.{Query, refusal, lookup_of}
use Rattle.cdf_lookup_spec.specs.Chosen.{Chosen, Lacks, Grouped, stream_of}
use Rattle.cdf_lookup_spec.specs.Samples.{samples_found, samples_due}

pub record Claims : Type 0 where
  -- K2 and its damaged forms, and groups of two persons and of one with two keys, computed.
  pub samples : samples_found ≡ samples_due
  -- The first stream's check comes first: if it refuses, the answer is its number and offset, whatever the second stream is;
  pub checked : (l m : Layout) (s t : List ℕ) (q : Query) → (Accepted l s → ⊥) →
      lookup_of l m s t q ≡ refusal (check_of l s).number (check_of l s).value
  -- then the second's.
  pub then_checked : (l m : Layout) (s t : List ℕ) (q : Query) → Accepted l s → (Accepted m t → ⊥) →
      lookup_of l m s t q ≡ refusal (check_of m t).number (check_of m t).value
  -- Of two accepted streams it is 7 exactly if the root of one is no E/R group,
  pub seven : (l m : Layout) (s t : List ℕ) (q : Query) → Accepted l s → Accepted m t →
      ((lookup_of l m s t q).number ≡ 7) ↔ ((Grouped l s → ⊥) ⊎ (Grouped m t → ⊥))
  -- of two accepted E/R groups 0 or 15,
  pub answers : (l m : Layout) (s t : List ℕ) (q : Query) → Accepted l s → Accepted m t → Grouped l s → Grouped m t →
      ((lookup_of l m s t q).number ≡ 0) ⊎ ((lookup_of l m s t q).number ≡ 15)
  -- and a value that the first of them has is the one that is found.
  pub first : (l m : Layout) (s t : List ℕ) (q : Query) (start size : ℕ) → Accepted l s → Accepted m t → Grouped l s → Grouped m t →
      Chosen l s q start size → lookup_of l m s t q ≡ record { number = 0; offset = 0; which = 1; start = start; size = size }
  -- Only a check's number comes with an offset.
  pub offset : (l m : Layout) (s t : List ℕ) (q : Query) → Accepted l s → Accepted m t → (lookup_of l m s t q).offset ≡ 0
  -- With 0 one of the two streams is named,
  pub named : (l m : Layout) (s t : List ℕ) (q : Query) → (lookup_of l m s t q).number ≡ 0 →
      ((lookup_of l m s t q).which ≡ 1) ⊎ ((lookup_of l m s t q).which ≡ 2)
  -- and the part is the value, in that stream, of the first field of the name in the first template with the name and the first key.
  pub value : (l m : Layout) (s t : List ℕ) (q : Query) → (lookup_of l m s t q).number ≡ 0 →
      Chosen (stream_of (lookup_of l m s t q).which l m) (stream_of (lookup_of l m s t q).which s t) q (lookup_of l m s t q).start (lookup_of l m s t q).size
  -- If it names the second stream, the first such template of the first has no such field, if there is such a template;
  pub second : (l m : Layout) (s t : List ℕ) (q : Query) → (lookup_of l m s t q).which ≡ 2 → Lacks l s q
  -- on equal streams it never does.
  pub equal : (l : Layout) (s : List ℕ) (q : Query) → (lookup_of l l s s q).which ≡ 2 → ⊥
  -- 15: it is so in both.
  pub missing : (l m : Layout) (s t : List ℕ) (q : Query) → (lookup_of l m s t q).number ≡ 15 → Lacks l s q × Lacks m t q
  -- Every refusal names no stream, and has the empty part at the front.
  pub refused : (l m : Layout) (s t : List ℕ) (q : Query) → ((lookup_of l m s t q).number ≡ 0 → ⊥) →
      lookup_of l m s t q ≡ refusal (lookup_of l m s t q).number (lookup_of l m s t q).offset
