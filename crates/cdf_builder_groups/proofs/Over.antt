-- The same calls twice: on a buffer of their own, and on one where a front of any bytes stands before it, with units open around.
-- Over the front they write what they write alone, and the lengths of the units around.
use Rattle.std.proofs.Common.{ℕ, ◌+◌, ◌-◌, ◌≡◌, refl, sym, ap, ◌∙◌, Bool, true, false, cond, List, [], ◌∷◌, ◌++◌, map, append_assoc, arith, eqb}
use Rattle.std.proofs.Common.{length}
use Rattle.std.proofs.lemmas.List.{map-append}
use mathlib.Core.List.{cons≢nil}
use Rattle.cdf_unit_table.specs.States.{admit, opens, nothing}
use Rattle.cdf_unit_prefix.specs.Layout.{Layout}
use Rattle.cdf_builder_write.specs.Patch.{patch}
use Rattle.cdf_builder_write.proofs.Patching.{patch_behind}
use Rattle.cdf_builder_spec.specs.Place.{BuilderPlace}
use Rattle.cdf_builder_spec.specs.Requests.{Request, unit, group, id_of, bytes_for, joining, entering, grown}
use Rattle.cdf_builder_spec.specs.Calls.{Reply, lengths}
use Rattle.cdf_builder_spec.specs.declared.Begun.{Begun}
use Rattle.cdf_builder_spec.proofs.Lengths.{length_lengths}
use Rattle.cdf_builder_spec.proofs.Joining.{Joins, joining_none, joining_cons, refused_is}
use Rattle.cdf_builder_spec.proofs.Replying.{entering_unit, entering_group, grown_written}
use Rattle.cdf_builder_runs.specs.Runs.{answer, run, AllDone}
use Rattle.cdf_builder_runs.proofs.Answers.{answer_called, answer_place, answer_buffer, first_done}
use Rattle.cdf_builder_runs.proofs.Taken.{grown_by}
use Rattle.cdf_builder_groups.proofs.Lengths.{further, Apart, lengths_both, lengths_front, lengths_behind, lengths_again}

-- The front is `base` bytes long, and these units are open around.
module _ (base : ℕ) (os : List Begun) where
  abbrev pub lifted : List Begun → List Begun
  lifted xs = map (further base) xs ++ os

  -- A request that joins a unit of its own buffer joins the same one over the front.
  joining_over : (id : ℕ) (xs : List Begun) (o : Begun) (outer : List Begun) → joining id xs ≡ o ∷ outer →
      joining id (lifted xs) ≡ further base o ∷ lifted outer
  joining_over id [] o outer e = absurd (cons≢nil (sym (sym (joining_none id) ∙ e)))
  joining_over id (x ∷ xs) o outer e =
      joining_cons id (further base x) (lifted xs)
      ∙ go (eqb (admit x.state id) 0) (sym (joining_cons id x xs) ∙ e) (joining_over id xs o outer)
    where
      go : (b : Bool) → cond b (joining id xs) (x ∷ xs) ≡ o ∷ outer → (joining id xs ≡ o ∷ outer → joining id (lifted xs) ≡ further base o ∷ lifted outer) →
          cond b (joining id (lifted xs)) (further base x ∷ lifted xs) ≡ further base o ∷ lifted outer
      go true e rest = rest e
      go false e rest = ap lifted e

  entering_over : (at : ℕ) (r : Request) → entering (base + at) r ≡ map (further base) (entering at r)
  entering_over at (unit u) =
      entering_unit (base + at) u ∙ go (opens u.id) ∙ sym (ap (map (further base)) (entering_unit at u))
    where
      go : (b : Bool) → cond b (record { state = nothing u.id; start = base + at } ∷ []) []
          ≡ map (further base) (cond b (record { state = nothing u.id; start = at } ∷ []) [])
      go true = refl
      go false = refl
  entering_over at (group g) = entering_group (base + at) g ∙ sym (ap (map (further base)) (entering_group at g))

  grown_over : (l : Layout) (p q : BuilderPlace) (r : Request) → Joins q.units (id_of l r) → p.written ≡ base + q.written →
      p.units ≡ lifted q.units → (grown l p r).units ≡ lifted (grown l q r).units
  grown_over l p q r j written units =
      let id = id_of l r in
      let had : Begun = record { state = admit j.unit.state id; start = j.unit.start } in
      let here : joining id p.units ≡ further base j.unit ∷ lifted j.outer =
      ap (joining id) units ∙ joining_over id q.units j.unit j.outer j.joins in
      grown_by l p r (further base j.unit) (lifted j.outer) here
      ∙ ap (λ (xs : List Begun). xs ++ (further base had ∷ lifted j.outer))
      (ap (λ (k : ℕ). entering k r) written ∙ entering_over q.written r)
      ∙ sym (append_assoc (map (further base) (entering q.written r)) (map (further base) (had ∷ j.outer)) os)
      ∙ ap (λ (xs : List Begun). xs ++ os) (sym (map-append (further base) (entering q.written r) (had ∷ j.outer)))
      ∙ ap lifted (sym (grown_by l q r j.unit j.outer j.joins))

  -- What is written, from any front that the lengths turn into the same.
  module _ (l : Layout) (f : List ℕ) (long : length f ≡ base) (apart : Apart l base os) where
    writes_over : (front : List ℕ) → length front ≡ base → ((w : ℕ) → lengths l w os front ≡ lengths l w os f) →
        (w at : ℕ) (k : List Begun) (bytes rest : List ℕ) →
        lengths l (base + w) (lifted k) (patch (base + at) bytes (front ++ rest)) ≡ lengths l (base + w) os f ++ lengths l w k (patch at bytes rest)
    writes_over front same again w at k bytes rest =
        let new = patch at bytes rest in
        let here : base + at - length front ≡ at = omega arith in
        lengths_both l (base + w) (map (further base) k) os (patch (base + at) bytes (front ++ rest))
        ∙ ap (λ (x : List ℕ). lengths l (base + w) (map (further base) k) (lengths l (base + w) os x))
        (patch_behind (base + at) bytes front rest (omega arith) ∙ ap (λ (i : ℕ). front ++ patch i bytes rest) here)
        ∙ ap (lengths l (base + w) (map (further base) k))
        (lengths_front l (base + w) base os front new apart (omega arith) ∙ ap (λ (x : List ℕ). x ++ new) (again (base + w)))
        ∙ lengths_behind l base w k (lengths l (base + w) os f) new (length_lengths l (base + w) os f ∙ long)

    -- The reply a over the front, and the reply i alone.
    pub record Over (a i : Reply) : Type 0 where
      pub units : a.place.units ≡ lifted i.place.units
      pub written : a.place.written ≡ base + i.place.written
      pub buffer : a.buffer ≡ lengths l a.place.written os f ++ i.buffer

    pub writes_as : (front : List ℕ) → length front ≡ base → ((w : ℕ) → lengths l w os front ≡ lengths l w os f) →
        (w at new v : ℕ) (k us : List Begun) (bytes rest s : List ℕ) → us ≡ lifted k → new ≡ base + w → v ≡ base + at → s ≡ front ++ rest →
        lengths l new us (patch v bytes s) ≡ lengths l new os f ++ lengths l w k (patch at bytes rest)
    writes_as front same again w at new v k us bytes rest s units grows written is =
        rw (units, grows, written, is) (writes_over front same again w at k bytes rest)

    over_call : (a i : Reply) (r : Request) → Over a i → (answer l a r).number ≡ 0 → (answer l i r).number ≡ 0 → Over (answer l a r) (answer l i r)
    over_call a i r o da di =
        let p = a.place in
        let q = i.place in
        let j = (refused_is l q.units r 0 (answer_called l i r di).0).0 in
        let units = grown_over l p q r j o.written o.units in
        let grows : (grown l p r).written ≡ base + (grown l q r).written = omega (arith, grown_written l p r, grown_written l q r, o.written) in
        let wrote =
        writes_as (lengths l p.written os f) (length_lengths l p.written os f ∙ long)
        (λ w. lengths_again l w p.written base os f apart (omega arith)) (grown l q r).written q.written (grown l p r).written p.written
        (grown l q r).units (grown l p r).units (bytes_for l r) i.buffer a.buffer units grows o.written o.buffer in
        record {
          units = rw (answer_place l a r da, answer_place l i r di) units;
          written = rw (answer_place l a r da, answer_place l i r di) grows;
          buffer =
              rw (answer_place l a r da)
              (answer_buffer l a r da ∙ wrote ∙ ap (λ (x : List ℕ). lengths l (grown l p r).written os f ++ x) (sym (answer_buffer l i r di)));
        }

    pub over_run : (rs : List Request) (a i : Reply) → Over a i → AllDone l a rs → AllDone l i rs → Over (run l a rs) (run l i rs)
    unfolding run
    over_run [] a i o da di = o
    over_run (r ∷ rs) a i o da di =
        let next = over_call a i r o (first_done l (answer l a r) rs da.1) (first_done l (answer l i r) rs di.1) in
        over_run rs (answer l a r) (answer l i r) next da.1 di.1
