-- The term of the claims.
use Rattle.std.proofs.Common.{◌≡◌, refl, ap, ◌∙◌, Bool, true, false, cond, List, [], ◌∷◌, ◌++◌, map, ◌↔◌, eqb-true, eqb}
use Rattle.std.proofs.lemmas.Bool.{eqb-false}
use Rattle.std.proofs.lemmas.List.{map-append}
use Rattle.cdf_unit_prefix.specs.Layout.{Layout, layout_of}
use Rattle.cdf_unit_prefix.specs.declared.Edition.{Edition}
use Rattle.cdf_grammar.specs.Encoding.{Item}
use Rattle.cdf_builder_spec.specs.Requests.{Request, unit}
use Rattle.cdf_builder_spec.specs.Calls.{Reply}
use Rattle.cdf_builder_spec.proofs.Replying.{call_kept}
use Rattle.cdf_builder_runs.specs.Runs.{answer, run, AllDone, done, Alike, requested}
use Rattle.cdf_builder_runs.specs.Telling.{Begins, BeginUnits}
use Rattle.cdf_builder_runs.specs.Claims.{Claims}
use Rattle.cdf_builder_runs.proofs.Ending.{tells_units}
use Rattle.cdf_builder_runs.proofs.Said.{requested_says, requested_units, requested_append}
use Rattle.cdf_builder_runs.proofs.Building.{accepted, builds}
use Rattle.cdf_builder_runs.proofs.Computed.{computed}

plain : (e : Edition) (us : List Item) → Begins (layout_of e) (map unit us) ↔ BeginUnits us
plain e us =
    let l = layout_of e in (
      λ w.
          let more = w.0 in
          let t = w.1.0 in
          (t, requested l more, w.1.1, requested_says e t (map unit us ++ more) w.1.2 ∙ rw (requested_append, requested_units)),
      λ w.
          let t = w.0 in
          (map unit w.1, (t, w.2, rw (w.3, map-append unit) at (tells_units l t))),
    )

module _ (l : Layout) where
  -- A call that is refused changes nothing.
  stays : (a : Reply) (r : Request) → eqb (answer l a r).number 0 ≡ false →
      ((answer l a r).place ≡ a.place) × ((answer l a r).buffer ≡ a.buffer)
  stays a r e =
      let some = eqb-false (answer l a r).number 0 e in
      call_kept l a.buffer a.place r some

  -- Of a reply only the place and the buffer matter to what follows.
  same_answer : (a b : Reply) (r : Request) → a.place ≡ b.place → a.buffer ≡ b.buffer → answer l a r ≡ answer l b r
  same_answer a b r p s = rw (p, s)

  same_run : (a b : Reply) (rs : List Request) → Alike a b → Alike (run l a rs) (run l b rs)
  unfolding run
  same_run a b [] e = e
  same_run a b (r ∷ rs) e =
      let same = same_answer a b r e.0 e.1 in
      (ap (λ (c : Reply). (run l c rs).place) same, ap (λ (c : Reply). (run l c rs).buffer) same)

  refusals : (a : Reply) → a.number ≡ 0 → (rs : List Request) → AllDone l a (done l a rs) × Alike (run l a rs) (run l a (done l a rs))
  unfolding run done
  refusals a z [] = (z, (refl, refl))
  refusals a z (r ∷ rs) = go (eqb (answer l a r).number 0) refl (refusals a z rs) (λ e. refusals (answer l a r) e rs)
    where
      go : (b : Bool) → eqb (answer l a r).number 0 ≡ b → AllDone l a (done l a rs) × Alike (run l a rs) (run l a (done l a rs)) →
          ((answer l a r).number ≡ 0 → AllDone l (answer l a r) (done l (answer l a r) rs)
          × Alike (run l (answer l a r) rs) (run l (answer l a r) (done l (answer l a r) rs))) →
          AllDone l a (cond b (r ∷ done l (answer l a r) rs) (done l a rs))
          × Alike (run l (answer l a r) rs) (run l a (cond b (r ∷ done l (answer l a r) rs) (done l a rs)))
      go true e stay on = let w = on (eqb-true (answer l a r).number 0 e) in ((z, w.0), w.1)
      go false e stay on =
          let same = same_run (answer l a r) a rs (stays a r e) in
          (stay.0, (same.0 ∙ stay.1.0, same.1 ∙ stay.1.1))

pub proved : Claims
proved = record {
  accepted = accepted;
  builds = builds;
  refusals = refusals;
  plain = plain;
  samples = computed;
}
