-- The claims of this crate, proved.
use Rattle.std.proofs.Common.{ℕ, ◌≤◌, ◌≡◌, List, ◌∷◌, length}
use Rattle.cdf_unit_prefix.specs.Layout.{Layout, layout_of}
use Rattle.cdf_unit_prefix.specs.declared.Edition.{Edition}
use Rattle.cdf_unit_list.specs.Ranks.{ranked_units}
use Rattle.cdf_unit_list.specs.declared.Ranked.{Ranked}
use Rattle.cdf_grammar.specs.Trees.{Forest}
use Rattle.cdf_grammar.specs.Encoding.{Stream}
use Rattle.cdf_reader_plain.specs.Claims.{Reads, Claims}
use Rattle.cdf_reader_plain.proofs.Passing.{skip_fits, take_fits, previous_fits, again, skipped_root, skip_blind}
use Rattle.cdf_reader_plain.proofs.Numbers.{run_apart}
use Rattle.cdf_reader_plain.proofs.Streams.{Readable, readable}
use Rattle.cdf_reader_plain.proofs.Reading.{answers, follows, ends, taken}
use Rattle.cdf_reader_plain.proofs.Nexts.{nexts, few}

-- A list that is readable is read alike by both readers,
reads : (l : Layout) (s : List ℕ) → length s ≤ l.limit → (first : Ranked) (rest : List Ranked) → Readable l s first rest → Reads l s first rest
reads l s short first rest r = record {
  answers = answers l s first rest r;
  numbers = λ calls k. rw (answers l s first rest r calls) (run_apart first rest calls k);
  follows = follows l s first rest r;
  ends = ends l s first rest r;
  taken = taken l s first rest r short;
}

-- and so is a stream's.
stream_reads : (e : Edition) (s : List ℕ) (t : Forest) → Stream (layout_of e) s t →
    (first : Ranked) × (rest : List Ranked) × (ranked_units (layout_of e) s ≡ first ∷ rest) × Reads (layout_of e) s first rest
stream_reads e s t p =
    let r = readable e s t p in (r.0, r.1, r.2.listed, reads (layout_of e) s p.within r.0 r.1 r.2)

pub proved : Claims
proved = record {
  reads = stream_reads;
  nexts = nexts;
  few = few;
  skip_fits = skip_fits;
  take_fits = take_fits;
  previous_fits = previous_fits;
  again = again;
  skipped_root = skipped_root;
  skip_blind = skip_blind;
}
