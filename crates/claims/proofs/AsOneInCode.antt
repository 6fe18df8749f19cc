-- All channels as one, of the code and of the static library: a controller with a past in the code stands where a past of the definition leads. Assumes nothing.
use mathlib.Core.Path.{◌≡◌, refl, sym, ap, ◌∙◌, subst}
use mathlib.Core.List.{List, [], ◌∷◌}
use Prim.Native.Nat.{ℕ, ◌<◌}
use lib.ListN.{length, length-replicate}
use Rattle.numbers.proofs.Listed.{length_listed}
use Rattle.mono_input_volume_controller.specs.Mono.{created}
use Rattle.input_volume_controller.specs.declared.InputVolumeController.{InputVolumeController}
use Rattle.input_volume_controller.specs.Channels.{channels_of}
use Rattle.input_volume_controller.specs.Control.{control_of}
use Rattle.input_volume_controller.specs.Controller.{Controller, view_of, Good, fresh_with}
use Rattle.input_volume_controller.specs.Reply.{Reply}
use Rattle.input_volume_controller.specs.Calls.{Call, Answer, after, answers}
use Rattle.agc2.specs.declared.answers.Agc2Controller.{Agc2Controller}
use Rattle.agc2.specs.Whole.{whole_of}
use Rattle.claims.specs.Library.{Numbers, in_numbers, Heard, LibraryRun, all_in_numbers}
use Rattle.claims.specs.Run.{Run}
use Rattle.claims.specs.Equal.{AsOne, EvenCalls}
use Rattle.claims.specs.Depends.{History, standing, Even, AgreeInAll, replies_in}
use Rattle.claims.specs.AsOneInCode.{channels_in, HasPast, AsOneInCode, HasLibraryPast, numbers_in, AsOneInLibrary}
use Rattle.claims.proofs.Run.{runs_are_runs}
use Rattle.claims.proofs.Fresh.{making_fresh}
use Rattle.claims.proofs.Library.{runs_as, made_created}
use Rattle.claims.proofs.Depends.{left, all_as_one, depends_on_one}

-- ---- the code

view_count : (c : InputVolumeController) → length (view_of c).control.channels ≡ channels_in c
unfolding view_of control_of channels_of
view_count c = length_listed _ (channels_in c)

-- what has a past in the code has one in the definition, since a fresh controller stands beside every answer of a making
record Stands (c : InputVolumeController) : Type 0 where
  history : History
  even : Even history
  is : view_of c ≡ standing history
  good : Good c

stands : (c : InputVolumeController) → HasPast c → Stands c
stands c h =
    let f = making_fresh h.profile h.channels h.config h.predictor in
    let r = runs_are_runs _ _ _ _ h.created.good h.run in
    let new : view_of h.made.controller ≡ fresh_with f.predictor f.settings f.count = h.created.view ∙ f.is in
    let count : channels_in h.made.controller ≡ f.count =
    sym (view_count h.made.controller) ∙ ap (λ (v : Controller). length v.control.channels) new ∙ length-replicate f.count (created f.settings) in
    record {
      history = record { predictor = f.predictor; settings = f.settings; channels = f.count; calls = h.calls };
      even = subst (λ (n : ℕ). EvenCalls n h.calls) count h.even;
      is = r.view ∙ ap (λ (x : Controller). after x h.calls) new;
      good = r.good;
    }

-- with its count of channels
count_of : (c : InputVolumeController) (s : Stands c) → s.history.channels ≡ channels_in c
count_of c s = sym (left s.history).channels ∙ sym (ap (λ (v : Controller). length v.control.channels) s.is) ∙ view_count c

code_equal : (c : InputVolumeController) → HasPast c → AsOne (channels_in c) (view_of c).control
code_equal c h =
    let s = stands c h in
    subst (λ (n : ℕ). AsOne n (view_of c).control) (count_of c s) (subst (λ (v : Controller). AsOne s.history.channels v.control) (sym s.is) (all_as_one s.history s.even))

code_depends : (a b : InputVolumeController) → HasPast a → HasPast b → (channel : ℕ) → channel < channels_in a → AgreeInAll channel (view_of a) (view_of b)
    → (calls : List Call) (one other : List Answer) (c d : InputVolumeController) → Run a calls one c → Run b calls other d → replies_in one ≡ replies_in other
code_depends a b h k channel inside g calls one other c d r t =
    let x = stands a h in
    let y = stands b k in
    let agree = subst (λ (v : Controller). AgreeInAll channel (standing x.history) v) y.is (subst (λ (v : Controller). AgreeInAll channel v (view_of b)) x.is g) in
    let heard : Controller → List Reply = λ v. replies_in (answers v calls) in
    ap replies_in (runs_are_runs _ _ _ _ x.good r).answered
    ∙ ap heard x.is
    ∙ depends_on_one x.history y.history x.even y.even channel (subst (λ (n : ℕ). channel < n) (sym (count_of a x)) inside) agree calls
    ∙ ap heard (sym y.is)
    ∙ sym (ap replies_in (runs_are_runs _ _ _ _ y.good t).answered)

-- THE CLAIM, of the code
pub as_one_in_code : AsOneInCode
as_one_in_code = record { equal = code_equal; depends = code_depends }

-- ---- the static library

-- a past of the library's calls is one of the controller that its numbers stand for
whole_past : (c : Agc2Controller) → HasLibraryPast c → HasPast (whole_of c)
whole_past c h =
    let made = made_created h.profile h.channels h.config h.predictor h.made h.created in
    let r = runs_as h.created.becomes.good h.run in
    record { profile = h.profile; channels = h.channels; config = h.config; predictor = h.predictor; made = made.made; created = made.created; calls = h.calls; heard = r.heard; run = r.run; even = h.even }

-- the numbers of the calls are those of the replies
numbers_by : List Call → List Reply → List Numbers
numbers_by [] says = []
numbers_by (call ∷ calls) [] = []
numbers_by (call ∷ calls) (r ∷ says) = in_numbers call r ∷ numbers_by calls says

numbers_by_lem : (calls : List Call) (heard : List Answer) → numbers_in (all_in_numbers calls heard) ≡ numbers_by calls (replies_in heard)
unfolding all_in_numbers numbers_by
numbers_by_lem [] heard = refl
numbers_by_lem (call ∷ calls) [] = refl
numbers_by_lem (call ∷ calls) (a ∷ heard) = ap (λ (rest : List Numbers). in_numbers call a.reply ∷ rest) (numbers_by_lem calls heard)

library_depends : (a b : Agc2Controller) → HasLibraryPast a → HasLibraryPast b → (channel : ℕ) → channel < channels_in (whole_of a) → AgreeInAll channel (view_of (whole_of a)) (view_of (whole_of b))
    → (calls : List Call) (one other : List Heard) (c d : Agc2Controller) → LibraryRun a calls one c → LibraryRun b calls other d → numbers_in one ≡ numbers_in other
library_depends a b h k channel inside g calls one other c d r t =
    let x = whole_past a h in
    let y = whole_past b k in
    let p = runs_as (stands (whole_of a) x).good r in
    let q = runs_as (stands (whole_of b) y).good t in
    ap numbers_in p.numbers
    ∙ numbers_by_lem calls p.heard
    ∙ ap (numbers_by calls) (code_depends (whole_of a) (whole_of b) x y channel inside g calls p.heard q.heard (whole_of c) (whole_of d) p.run q.run)
    ∙ sym (numbers_by_lem calls q.heard)
    ∙ sym (ap numbers_in q.numbers)

-- THE CLAIM, of the static library
pub as_one_in_library : AsOneInLibrary
as_one_in_library = record { equal = λ c h. code_equal (whole_of c) (whole_past c h); depends = library_depends }
