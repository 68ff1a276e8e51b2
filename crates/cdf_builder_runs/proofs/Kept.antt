-- What runs keep: the place stands for the requests so far, the buffer's front for their bytes, and what is behind it stays.
use Rattle.std.proofs.Common.{ℕ, ◌+◌, ◌-◌, ◌≤◌, ◌≡◌, refl, sym, ap, subst, ◌∙◌, true, List, [], ◌∷◌, ◌++◌, append-nil, append_assoc, inl, arith, T}
use Rattle.std.proofs.Common.{length, take, drop, length-append, length-drop, take-append-drop, take_at, drop_at, drop-drop, length-take-le}
use Rattle.cdf_unit_table.specs.Ids.{stream, er_group, file_group}
use Rattle.cdf_unit_table.specs.States.{root_kind, nothing}
use Rattle.cdf_unit_table.proofs.Match.{each, among}
use Rattle.cdf_unit_table.proofs.Rows.{root_opens, opens_by}
use Rattle.cdf_unit_prefix.specs.Layout.{Layout, layout_of, prefix_of}
use Rattle.cdf_unit_prefix.specs.declared.Edition.{Edition}
use Rattle.cdf_grammar.specs.Trees.{none, ids}
use Rattle.cdf_grammar.specs.Published.{Among, TextIs, production_of}
use Rattle.cdf_grammar.specs.Encoding.{unit_bytes, encode}
use Rattle.cdf_grammar.proofs.Fits.{through}
use Rattle.cdf_grammar.proofs.Built.{encode_none, unit_is, length_unit}
use Rattle.cdf_builder_write.specs.Patch.{patch}
use Rattle.cdf_builder_write.proofs.Patching.{patch_in}
use Rattle.cdf_builder_spec.specs.Place.{BuilderPlace}
use Rattle.cdf_builder_spec.specs.Requests.{Request, unit, bytes_for, grown}
use Rattle.cdf_builder_spec.specs.declared.Begun.{Begun}
use Rattle.cdf_builder_spec.specs.Calls.{Reply, lengths, start_of, start_number}
use Rattle.cdf_builder_spec.proofs.Replying.{grown_written, start_zero, start_number_lem, start_done}
use Rattle.cdf_builder_runs.specs.Runs.{root_item, answer, run, AllDone, Lent, AllLent}
use Rattle.cdf_builder_runs.proofs.Answers.{answer_called, answer_place, answer_buffer, first_done}
use Rattle.cdf_builder_runs.proofs.Forests.{append}
use Rattle.cdf_builder_runs.proofs.Growing.{Frame, size, frame_bytes, heads, length_heads, relength}
use Rattle.cdf_builder_runs.proofs.Spine.{Spine, held_placed}
use Rattle.cdf_builder_runs.proofs.Adding.{Step}
use Rattle.cdf_builder_runs.proofs.Taken.{take_step}

pub record Kept (l : Layout) (s : List ℕ) (p : BuilderPlace) (buffer : List ℕ) (rs : List Request) : Type 0 where
  pub spine : Spine l p.written p.units rs (take p.written buffer)
  pub behind : drop p.written buffer ≡ drop p.written s

-- A root has no action and no own data.
root_blank : (id : ℕ) → root_kind id ≡ true → Among 0 (production_of id).actions × TextIs (production_of id).text []
unfolding root_kind production_of
root_blank id e =
    let kinds = stream ∷ er_group ∷ file_group ∷ [] in
    each (λ k. Among 0 (production_of k).actions × TextIs (production_of k).text []) kinds
    ((inl refl, refl), ((inl refl, refl), ((inl refl, refl), tt))) id (among kinds id id (subst T (sym e) tt) refl)

-- After a start.
module _ (l : Layout) (id : ℕ) (kind : root_kind id ≡ true) where
  abbrev root_frame : Frame
  root_frame = record { before = none; id = id; action = 0; text = [] }

  abbrev root_bytes : List ℕ
  root_bytes = unit_bytes l id 0 [] []

  root_bytes_lem : root_bytes ≡ heads l (prefix_of l) (root_frame ∷ []) ++ encode l none
  unfolding heads frame_bytes size
  root_bytes_lem =
      let len : prefix_of l - (0 + length {A = ℕ} []) ≡ prefix_of l + (0 + 0) = omega arith in
      rw (unit_is, encode_none, len) (simp append-nil)

  root_spine : Spine l (prefix_of l) (record { state = nothing id; start = 0 } ∷ []) (unit (root_item id) ∷ []) root_bytes
  unfolding size ids through append
  root_spine =
      let blank = root_blank id kind in
      record {
        frames = root_frame ∷ [];
        kids = none;
        held = (
          record {
            start = rw encode_none;
            state = refl;
            some = root_opens id kind;
            parent = opens_by id (nothing id) refl (root_opens id kind);
            acts = blank.0;
            says = blank.1;
            before = record {};
          },
          (id, refl, kind),
        );
        conforms = record {};
        told = record { outside = unit (root_item id) ∷ []; inside = []; parts = refl; heads = ([], [], refl, refl, refl); trees = refl };
        ends = rw encode_none (omega arith);
        bytes = root_bytes_lem;
      }

-- Bytes at the front, and what is behind them.
pub front_put : (new s : List ℕ) → length new ≤ length s → patch 0 new s ≡ new ++ drop (length new) s
front_put new s h =
    rw take-append-drop at (patch_in [] (take (length new) s) (drop (length new) s) new (length-take-le (length new) s h))

front_length : (l : Layout) (w : ℕ) (os : List Begun) (rs : List Request) (front : List ℕ) → Spine l w os rs front → length front ≡ w
front_length l w os rs front s = rw (s.bytes, length-append, length_heads) (sym s.ends)

-- Of a reply.
abbrev pub KeptBy : Layout → List ℕ → Reply → List Request → Type 0
KeptBy l s a rs = Kept l s a.place a.buffer rs

pub kept_start : (l : Layout) (s : List ℕ) (id : ℕ) → (start_of l s id).number ≡ 0 → KeptBy l s (start_of l s id) (unit (root_item id) ∷ [])
kept_start l s id e = rw (start_done l s id zero, put) (record {
  spine = rw (take_at (unit_bytes l id 0 [] []) (drop (prefix_of l) s) (prefix_of l) long) (root_spine l id may.0);
  behind = drop_at (unit_bytes l id 0 [] []) (drop (prefix_of l) s) (prefix_of l) long;
})
  where
    zero : start_number l (length s) id ≡ 0
    zero = sym (start_number_lem l s id) ∙ e

    may : (root_kind id ≡ true) × (prefix_of l ≤ length s)
    may = (start_zero l (length s) id).0 zero

    long : length (unit_bytes l id 0 [] []) ≡ prefix_of l
    long = rw length_unit (omega arith)

    put : patch 0 (unit_bytes l id 0 [] []) s ≡ unit_bytes l id 0 [] [] ++ drop (prefix_of l) s
    put = rw long at (front_put (unit_bytes l id 0 [] []) s (omega (arith, long, may.1)))

-- What stands behind the front, once more bytes of it are taken.
module _ (l : Layout) (s : List ℕ) (p : BuilderPlace) (buffer : List ℕ) (rs : List Request) (k : Kept l s p buffer rs) (r : Request)
    (room : p.written + length (bytes_for l r) ≤ length buffer)
    (step : Step l p.written (take p.written buffer) (bytes_for l r) (grown l p r).written (grown l p r).units (rs ++ (r ∷ []))) where
  abbrev after : List ℕ
  after = step.after

  abbrev back : List ℕ
  back = drop (length (bytes_for l r)) (drop p.written buffer)

  kept_step : Kept l s (grown l p r) (lengths l (grown l p r).written (grown l p r).units (patch p.written (bytes_for l r) buffer))
      (rs ++ (r ∷ []))
  kept_step =
      let new = (grown l p r).written in
      let long : length after ≡ new = front_length l new (grown l p r).units (rs ++ (r ∷ [])) after step.spine in
      let put = rw take-append-drop at (step.writes (drop p.written buffer) (simp length-drop (omega arith))) in
      rw put (record {
        spine = rw (take_at after back new long) step.spine;
        behind =
            drop_at after back new long
            ∙ rw (k.behind, grown_written l p r) (drop-drop (length (bytes_for l r)) p.written s);
      })

-- A call that is done.
kept_call : (e : Edition) (s : List ℕ) (a : Reply) (rs : List Request) (r : Request) → Lent r → KeptBy (layout_of e) s a rs →
    (answer (layout_of e) a r).number ≡ 0 → KeptBy (layout_of e) s (answer (layout_of e) a r) (rs ++ (r ∷ []))
kept_call e s a rs r lent k zero =
    let l = layout_of e in
    let may = answer_called l a r zero in
    let step = take_step e a.place rs (take a.place.written a.buffer) k.spine r lent may.0 in
    rw (answer_place l a r zero, answer_buffer l a r zero) (kept_step l s a.place a.buffer rs k r may.2 step)

-- Calls that are all done.
pub kept_run : (e : Edition) (s : List ℕ) (a : Reply) (rs more : List Request) → AllLent more → KeptBy (layout_of e) s a rs →
    AllDone (layout_of e) a more → KeptBy (layout_of e) s (run (layout_of e) a more) (rs ++ more)
unfolding run
kept_run e s a rs [] lent k done = rw append-nil k
kept_run e s a rs (r ∷ more) lent k done =
    let next = answer (layout_of e) a r in
    rw append_assoc at
    (kept_run e s next (rs ++ (r ∷ [])) more lent.1
    (kept_call e s a rs r lent.0 k (first_done (layout_of e) next more done.1)) done.1)

-- The lengths of the open units are right as they stand.
pub kept_settled : (l : Layout) (s : List ℕ) (p : BuilderPlace) (buffer : List ℕ) (rs : List Request) → Kept l s p buffer rs →
    lengths l p.written p.units buffer ≡ buffer
kept_settled l s p buffer rs k =
    let w = k.spine in
    let back = drop p.written buffer in
    let same : buffer ≡ heads l p.written w.frames ++ (encode l w.kids ++ back) =
    sym (take-append-drop p.written buffer) ∙ ap (λ (x : List ℕ). x ++ back) w.bytes
    ∙ append_assoc (heads l p.written w.frames) (encode l w.kids) back in
    ap (lengths l p.written p.units) same
    ∙ relength l p.written p.written w.frames p.units (encode l w.kids ++ back) (held_placed l w.frames w.kids p.units w.held)
    ∙ sym same
