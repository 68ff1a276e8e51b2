-- Runs against admission: every call is done exactly if its requests are admitted and all their bytes have room.
use Rattle.std.proofs.Common.{ℕ, ◌+◌, ◌≤◌, ◌≡◌, refl, sym, ap, ◌∙◌, true, List, [], ◌∷◌, ◌↔◌, arith, length}
use Rattle.cdf_unit_table.specs.States.{root_kind}
use Rattle.cdf_unit_prefix.specs.Layout.{Layout, layout_of, prefix_of}
use Rattle.cdf_unit_prefix.specs.declared.Edition.{Edition}
use Rattle.cdf_grammar.specs.Encoding.{unit_bytes}
use Rattle.cdf_builder_write.proofs.Patching.{length_patch}
use Rattle.cdf_builder_spec.specs.Place.{BuilderPlace}
use Rattle.cdf_builder_spec.specs.Requests.{Request, bytes_for}
use Rattle.cdf_builder_spec.specs.Calls.{Reply, start_of}
use Rattle.cdf_builder_spec.proofs.Fitting.{fitting}
use Rattle.cdf_builder_spec.proofs.Replying.{root_place, grown_written, start_zero, start_number_lem, start_done, call_zero, call_number_lem}
use Rattle.cdf_builder_spec.proofs.Keeping.{start_fits}
use Rattle.cdf_builder_runs.specs.Runs.{answer, run, AllDone, sizes}
use Rattle.cdf_builder_runs.proofs.Admitted.{Admitted}
use Rattle.cdf_builder_runs.proofs.Answers.{Fit, answer_called, answer_fits, answer_place, answer_length, first_done}

module _ (l : Layout) where
  -- What is written, with the bytes of these requests, is within the limit and the buffer.
  abbrev Roomy : Reply → List Request → Type 0
  Roomy a rs = (a.place.written + sizes l rs ≤ l.limit) × (a.place.written + sizes l rs ≤ length a.buffer)

  pub sizes_on : (r : Request) (rs : List Request) → sizes l (r ∷ rs) ≡ length (bytes_for l r) + sizes l rs
  unfolding sizes
  sizes_on r rs = refl

  pub sizes_end : sizes l [] ≡ 0
  unfolding sizes
  sizes_end = refl

  module _ (a : Reply) (r : Request) (done : (answer l a r).number ≡ 0) where
    answer_written : (answer l a r).place.written ≡ a.place.written + length (bytes_for l r)
    answer_written = ap (λ (q : BuilderPlace). q.written) (answer_place l a r done) ∙ grown_written l a.place r

    -- The same bytes have room after the call as with it.
    roomy_on : (rs : List Request) → Roomy (answer l a r) rs ↔ Roomy a (r ∷ rs)
    roomy_on rs =
        let same = answer_written in
        let all = sizes_on r rs in
        let long = answer_length l a r in
        (λ w. (omega (arith, w.0), omega (arith, w.1)), λ w. (omega (arith, w.0), omega (arith, w.1)))

  pub run_written : (rs : List Request) (a : Reply) → AllDone l a rs → (run l a rs).place.written ≡ a.place.written + sizes l rs
  unfolding run
  run_written [] a d = omega (arith, sizes_end)
  run_written (r ∷ rs) a d =
      let next = answer_written a r (first_done l (answer l a r) rs d.1) in
      omega (arith, run_written rs (answer l a r) d.1, next, sizes_on r rs)

  -- From a reply whose place fits: all is done, if all is admitted and has room, and only then.
  done_admitted : (rs : List Request) (a : Reply) → Fit l a → AllDone l a rs → Admitted l a.place rs × Roomy a rs
  done_admitted [] a fit d =
      let f = fitting l (length a.buffer) a.place fit in
      (record {}, (omega (arith, sizes_end, f.limit), omega (arith, sizes_end, f.within)))
  done_admitted (r ∷ rs) a fit d =
      let done = first_done l (answer l a r) rs d.1 in
      let w = done_admitted rs (answer l a r) (answer_fits l a r done) d.1 in
      (((answer_called l a r done).0, rw (answer_place l a r done) at w.0), (roomy_on a r done rs).0 w.1)

  pub admitted_done : (rs : List Request) (a : Reply) → a.number ≡ 0 → Fit l a → Admitted l a.place rs → Roomy a rs → AllDone l a rs
  admitted_done [] a e fit all room = e
  admitted_done (r ∷ rs) a e fit all room =
      let size = sizes_on r rs in
      let done : (answer l a r).number ≡ 0 =
      call_number_lem l a.buffer a.place r
      ∙ (call_zero l (length a.buffer) a.place r fit).1 (all.0, omega (arith, room.0), omega (arith, room.1)) in
      (e, admitted_done rs (answer l a r) done (answer_fits l a r done) (rw (answer_place l a r done) all.1) ((roomy_on a r done rs).1 room))

  -- A start with this id and these requests are admitted, and all their bytes have room in a buffer of n.
  abbrev pub Room : ℕ → ℕ → List Request → Type 0
  Room n id rs =
      (root_kind id ≡ true) × Admitted l (root_place l id) rs × (prefix_of l + sizes l rs ≤ l.limit) × (prefix_of l + sizes l rs ≤ n)

-- What a start that is done answers.
pub record Begun (l : Layout) (s : List ℕ) (id : ℕ) (a : Reply) : Type 0 where
  pub fit : Fit l a
  pub place : a.place ≡ root_place l id
  pub long : length a.buffer ≡ length s

pub begun : (e : Edition) (s : List ℕ) (id : ℕ) → (start_of (layout_of e) s id).number ≡ 0 →
    Begun (layout_of e) s id (start_of (layout_of e) s id)
begun e s id done =
    let l = layout_of e in
    let is = start_done l s id (sym (start_number_lem l s id) ∙ done) in
    record {
      fit = start_fits e s id done;
      place = rw is;
      long = rw is (length_patch 0 (unit_bytes l id 0 [] []) s);
    }

pub all_done : (e : Edition) (s : List ℕ) (id : ℕ) (rs : List Request) →
    AllDone (layout_of e) (start_of (layout_of e) s id) rs ↔ Room (layout_of e) (length s) id rs
all_done e s id rs =
    let l = layout_of e in
    let a = start_of l s id in (
      λ d.
          let done = first_done l a rs d in
          let b = begun e s id done in
          let same = ap (λ (q : BuilderPlace). q.written) b.place in
          let w = done_admitted l rs a b.fit d in
          let root = ((start_zero l (length s) id).0 (sym (start_number_lem l s id) ∙ done)).0 in
          (root, rw b.place at w.0, omega (arith, w.1.0, same), omega (arith, w.1.1, same, b.long)),
      λ w.
          let done = start_number_lem l s id ∙ (start_zero l (length s) id).1 (w.0, omega (arith, w.3)) in
          let b = begun e s id done in
          let same = ap (λ (q : BuilderPlace). q.written) b.place in
          admitted_done l rs a done b.fit (rw b.place w.1) (omega (arith, w.2, same), omega (arith, w.3, same, b.long)),
    )
