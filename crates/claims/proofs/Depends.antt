-- No call reads the controller's own volume or the controlling channel before it takes them anew; and where the channels are as one, one of them stands for all. Assumes nothing.
use mathlib.Core.Path.{◌≡◌, refl, sym, ap, ◌∙◌}
use mathlib.Core.Bool.{Bool, true, false}
use mathlib.Core.List.{List, [], ◌∷◌}
use Prim.Native.Nat.{ℕ, ◌<◌}
use native.Mathlib.Omega.{arith}
use lib.Ieee.{Float}
use lib.ListN.{length, get_or, replicate, get_or-replicate}
use Rattle.std.specs.Prelude.{Err, None, Ok, Option, Result, Some}
use Rattle.numbers.specs.declared.refusal.Refusal.{Refusal}
use Rattle.mono_input_volume_controller.specs.declared.mono.MonoInputVolumeController.{MonoInputVolumeController}
use Rattle.input_volume_controller.specs.Volumes.{numbers_of, numbers_in}
use Rattle.input_volume_controller.specs.Channels.{no_channel}
use Rattle.input_volume_controller.specs.Control.{with_volume}
use Rattle.input_volume_controller.specs.ControlCalls.{aggregated, with_applied_input_volumes, initialize, process_channels}
use Rattle.input_volume_controller.specs.Controller.{Controller, fresh_with}
use Rattle.input_volume_controller.specs.Reply.{Stepped}
use Rattle.input_volume_controller.specs.Frame.{frame_outcome, unless_refused, analyze_input_audio}
use Rattle.input_volume_controller.specs.Recommendation.{recommend_if, unless_none, recommend_input_volume}
use Rattle.input_volume_controller.specs.Calls.{Call, frame, recommendation, initialise, capture_switch, step, answers}
use Rattle.claims.specs.Equal.{AsOne}
use Rattle.claims.specs.Depends.{History, standing, Even, settings, one_channel, rings, since_clipping, pending_volume, state_of, AgreeInAll, ReplyAlike, DependsOnOne, SaidByOthers}
use Rattle.claims.proofs.Every.{every_at}
use Rattle.claims.proofs.Equal.{equal_channels}
use Rattle.claims.proofs.Kept.{count_of, kept_fresh, kept_after}
use Rattle.claims.proofs.Switch.{IsUsed, Follows, follows_after}

-- ---- one call

-- a controller with its volume and controlling channel wiped out
abbrev bare : Controller → Controller
bare c = record { control = with_volume 0 0 c.control; predictor = c.predictor }

-- two that are equal but for these; their channels may differ from each other
record EqualBare (a b : Stepped) : Type 0 where
  reply : a.reply ≡ b.reply
  state : bare a.state ≡ bare b.state

-- each call does with the bare controller what it does with the whole
bare_frame : (o : Result (Unit {0}) Refusal) (volumes : List ℕ) (samples : ℕ) (lent : List Float) (c : Controller) → EqualBare (unless_refused o volumes samples lent (bare c)) (unless_refused o volumes samples lent c)
unfolding with_applied_input_volumes aggregated
bare_frame (Err cause) volumes samples lent c = record { reply = refl; state = refl }
bare_frame (Ok tt) volumes samples lent c = record { reply = refl; state = refl }

bare_recommends : (used : Bool) (applied : ℕ) (probability : Float) (level : Option Float) (c : Controller)
    → EqualBare (recommend_if used applied probability level (bare c)) (recommend_if used applied probability level c)
unfolding process_channels aggregated
bare_recommends true applied probability level c = record { reply = refl; state = refl }
bare_recommends false applied probability level c = record { reply = refl; state = refl }

bare_asked : (a : Option ℕ) (probability : Float) (level : Option Float) (c : Controller) → EqualBare (unless_none a probability level (bare c)) (unless_none a probability level c)
bare_asked None probability level c = record { reply = refl; state = refl }
bare_asked (Some applied) probability level c = bare_recommends c.control.used applied probability level c

bare_step : (c : Controller) (call : Call) → EqualBare (step (bare c) call) (step c call)
unfolding analyze_input_audio recommend_input_volume initialize aggregated
bare_step c (frame most volumes samples lent) = bare_frame (frame_outcome most (length c.control.channels) volumes samples lent) (numbers_in (numbers_of volumes)) samples lent c
bare_step c (recommendation probability level) = bare_asked c.control.applied probability level c
bare_step c initialise = record { reply = refl; state = refl }
bare_step c (capture_switch on) = record { reply = refl; state = refl }

-- so two that are equal but for these are so after the call, and reply alike
step_bare : (a b : Controller) (call : Call) → bare a ≡ bare b → EqualBare (step a call) (step b call)
step_bare a b call e =
    let x = bare_step a call in
    let y = bare_step b call in
    record {
      reply = sym x.reply ∙ ap (λ (c : Controller). (step c call).reply) e ∙ y.reply;
      state = sym x.state ∙ ap (λ (c : Controller). bare (step c call).state) e ∙ y.state;
    }

-- and so to every list of calls
pub bare_replies : (a b : Controller) → bare a ≡ bare b → ReplyAlike a b
unfolding answers
bare_replies a b e [] = refl
bare_replies a b e (call ∷ calls) =
    let s = step_bare a b call e in
    let rest = bare_replies (step a call).state (step b call).state s.state calls in
    λ i. s.reply i ∷ rest i

-- ---- one channel

-- what a past leaves, with any sets: so many channels, a ring for each, and the switch that each of them has
pub record Left (n : ℕ) (c : Controller) : Type 0 where
  pub channels : length c.control.channels ≡ n
  pub count : length c.predictor.rings ≡ n
  pub follows : Follows c.control

pub left : (h : History) → Left h.channels (standing h)
left h =
    let fresh = fresh_with h.predictor h.settings h.channels in
    let kept = kept_after h.predictor h.settings h.channels h.calls fresh (kept_fresh h.predictor h.settings h.channels) in
    record {
      channels = count_of h.settings h.channels (standing h).control kept.control;
      count = kept.count;
      follows = follows_after h.predictor h.settings h.channels h.calls;
    }

is_switch : (n : ℕ) (c : Controller) → Left n c → (channel : ℕ) → channel < n → (state_of channel c).used ≡ c.control.used
is_switch n c l channel inside = every_at (IsUsed c.control.used) c.control.channels channel no_channel l.follows (omega (arith, l.channels, inside))

-- where all are one, any channel is that one
is_one : (n : ℕ) (c : Controller) (o : AsOne n c.control) (channel : ℕ) → channel < n → state_of channel c ≡ o.state
is_one n c o channel inside = ap (λ (ms : List MonoInputVolumeController). get_or ms channel no_channel) o.equal ∙ get_or-replicate n channel o.state no_channel inside

pub all_as_one : (h : History) → Even h → AsOne h.channels (standing h).control
all_as_one h even = equal_channels h.predictor h.settings h.channels h.calls even

-- two that agree in one channel's state and the rest are equal but for their volumes and controlling channels
agree_bare : (n m : ℕ) (a b : Controller) → Left n a → Left m b → AsOne n a.control → AsOne m b.control → (channel : ℕ) → channel < n → AgreeInAll channel a b → bare a ≡ bare b
agree_bare n m a b x y o q channel inside g =
    let same : n ≡ m = sym x.count ∙ ap length (g rings) ∙ y.count in
    let there : channel < m = omega (arith, same, inside) in
    let state : o.state ≡ q.state = sym (is_one n a o channel inside) ∙ g one_channel ∙ is_one m b q channel there in
    let channels : a.control.channels ≡ b.control.channels = o.equal ∙ (λ i. replicate (same i) (state i)) ∙ sym q.equal in
    let used : a.control.used ≡ b.control.used =
    sym (is_switch n a x channel inside) ∙ ap (λ (k : MonoInputVolumeController). k.used) (g one_channel) ∙ is_switch m b y channel there in
    λ i. record {
      control = record {
        settings = (g settings).0 i;
        channels = channels i;
        since = g since_clipping i;
        used = used i;
        applied = g pending_volume i;
        volume = 0;
        controlling = 0;
      };
      predictor = record { settings = (g settings).1 i; rings = g rings i };
    }

-- THE CLAIMS
pub depends_on_one : DependsOnOne
depends_on_one one other even also channel inside g =
    bare_replies _ _ (agree_bare one.channels other.channels (standing one) (standing other) (left one) (left other) (all_as_one one even) (all_as_one other also) channel inside g)

pub said_by_others : SaidByOthers
said_by_others = record { count = λ h. (left h).count; switch = λ h channel inside. is_switch h.channels (standing h) (left h) channel inside }
