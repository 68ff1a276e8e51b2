-- What is claimed of a rescue. The term of this record stands in proofs/Proved.
use Rattle.std.specs.Prelude.{ℕ, ◌≤◌, ◌≡◌, List, [], ◌↔◌, length, drop}
use Rattle.cdf_unit_table.specs.Ids.{er_group}
use Rattle.cdf_unit_prefix.specs.Layout.{layout_of, prefix_of, id_at}
use Rattle.cdf_unit_prefix.specs.declared.Edition.{Edition}
use Rattle.cdf_grammar.specs.Encoding.{Bytes}
use Rattle.cdf_grammar.specs.Claims.{Accepted}
use Rattle.cdf_rescue_spec.specs.Salvage.{Piece, pieces, runs_of, rescue_of}
use Rattle.cdf_rescue_spec.specs.Kept.{Tiles, Decided, Apart, InRuns, IsDropped, Refuses, Group}
use Rattle.cdf_rescue_spec.specs.Samples.{samples_found, samples_due, runs_found, runs_due}

-- What holds in one edition.
pub record InEdition (e : Edition) : Type 0 where
  -- The pieces, kept and dropped, are the bytes behind the prefix, each once and in order.
  pub covers : (s : List ℕ) → prefix_of (layout_of e) ≤ length s → Tiles (prefix_of (layout_of e)) (length s) (pieces (layout_of e) s)
  -- Whole units are kept, and bytes dropped where none begins.
  pub decided : (s : List ℕ) → Bytes s → Decided (layout_of e) s (pieces (layout_of e) s)
  -- These two leave one way to cut the bytes into pieces.
  pub only : (s : List ℕ) → Bytes s → (ps : List Piece) → Tiles (prefix_of (layout_of e)) (length s) ps → Decided (layout_of e) s ps →
      ps ≡ pieces (layout_of e) s
  -- The runs are the dropped bytes, neighbours joined.
  pub apart : (s : List ℕ) → Apart (runs_of (pieces (layout_of e) s))
  pub runs : (s : List ℕ) (i : ℕ) → InRuns i (runs_of (pieces (layout_of e) s)) ↔ IsDropped i (pieces (layout_of e) s)
  -- The number is the first of 02, f's that applies. Beside it no run is told, and nothing is written.
  pub refuses : (room : ℕ) (s : List ℕ) → Refuses (layout_of e) room s
  -- What is written is accepted.
  pub group : (room : ℕ) (s : List ℕ) → Bytes s → (rescue_of (layout_of e) room s).number ≡ 0 → Group (layout_of e) room s
  -- An accepted E/R group comes out unchanged, with no runs.
  pub unchanged : (room : ℕ) (s : List ℕ) → Bytes s → Accepted (layout_of e) s → id_at (layout_of e) s ≡ er_group → length s ≤ room →
      rescue_of (layout_of e) room s ≡ record { number = 0; runs = []; group = s }
  -- So a rescue of what was written changes nothing.
  pub again : (room : ℕ) (s : List ℕ) → Bytes s → (rescue_of (layout_of e) room s).number ≡ 0 →
      (more : ℕ) → length (rescue_of (layout_of e) room s).group ≤ more →
      rescue_of (layout_of e) more (rescue_of (layout_of e) room s).group ≡
      record { number = 0; runs = []; group = (rescue_of (layout_of e) room s).group }
  -- The bytes of the prefix are not looked at.
  pub unseen : (room : ℕ) (s r : List ℕ) → length s ≡ length r → drop (prefix_of (layout_of e)) s ≡ drop (prefix_of (layout_of e)) r →
      rescue_of (layout_of e) room s ≡ rescue_of (layout_of e) room r

pub record Claims : Type 0 where
  -- All of this holds in each edition.
  pub rescues : (e : Edition) → InEdition e
  -- Rescues that are computed; 64 runs, and one more.
  pub samples : samples_found ≡ samples_due
  pub most : runs_found ≡ runs_due
