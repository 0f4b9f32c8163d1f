-- A step of a candidate pair: what each part of the code relies on holds, what it writes is the moved multipliers and their G, and the
-- code can go on from there. Assumes nothing.
use mathlib.Core.Path.{◌≡◌, sym, ◌∙◌, subst, subst₂}
use mathlib.Core.List.{List}
use Prim.Native.Nat.{ℕ, ◌≤◌, ◌<◌}
use native.Mathlib.Omega.{arith}
use lib.IntN.{ℤ, pos, nat_abs, ◌+ℤ◌, ◌-ℤ◌, ◌*ℤ◌}
use lib.ListN.{length}
use Rattle.integers.proofs.Laws.Order.{<ℤ_to-≤ℤ}
use Rattle.integers.specs.Written.{written}
use Rattle.integers.proofs.Laws.Written.{length_written, written_at, written_cong}
use Rattle.training_file.specs.declared.item.Item.{Item}
use Rattle.training_file.specs.declared.item.Label.{Label}
use Rattle.training_file.specs.declared.item.Label.TheVariants.{LookedUp, PassedOver}
use Rattle.training_file.specs.Parameters.{Ranges, ceiling_most}
use Rattle.training_file.specs.Item.{opposite}
use Rattle.reading.specs.Reading.{reading}
use Rattle.reading.specs.Calls.{items_in}
use Rattle.dual_problem.specs.declared.problem.FileProblem.{FileProblem}
use Rattle.dual_problem.specs.Size.{gradient_most}
use Rattle.dual_problem.specs.Problem.{Problem, Feasible, gradient, at}
use Rattle.dual_problem.specs.Given.{MultipliersFit, count_in, item_at, problem_in}
use Rattle.dual_problem.proofs.Laws.Problem.Ceilings.{ceiling_range, feasible_most}
use Rattle.working_pair.specs.Step.{Candidate, amount, fall, rise, room, slope}
use Rattle.working_pair.specs.State.{State}
use Rattle.working_pair.specs.Division.{PairGiven, amount_between, holding_at}
use Rattle.working_pair.proofs.Laws.Step.{room_bound, moved_length, moved_feasible, moved_gradient, curvature_nonneg, moves_slope, moves_apart, candidate_moves}
use Rattle.working_pair.proofs.Laws.Step.Amount.{amount_in_room}
use Rattle.working_pair.proofs.Laws.Division.{amount_divided}
use Rattle.working_pair.proofs.Laws.State.{state_gram, kept_size, slope_size}
use Rattle.smo_step.specs.Update.{stepped, updated, Updatable}

-- a higher ceiling gives no less room
rise_higher : (l : Label) (a : ℕ) {c d : ℕ} → c ≤ d → rise l a c ≤ rise l a d
rise_higher LookedUp a h = omega arith
rise_higher PassedOver a h = omega arith

fall_higher : (l : Label) (a : ℕ) {c d : ℕ} → c ≤ d → fall l a c ≤ fall l a d
fall_higher l a h = rise_higher (opposite l) a h

module _ {f : FileProblem} {a : List ℕ} {g : List ℤ} (state : State f a g) {i j : ℕ} (pair : Candidate (problem_in f) a i j) where
  abbrev P : Problem
  P = problem_in f

  abbrev items : List Item
  items = items_in (reading f.file.now)

  all_items : count_in f ≡ P.count
  all_items = f.listed.counted

  long : P.count ≤ length a
  long = omega (arith, all_items, state.fit.long)

  -- both places are the code's
  pub i_listed : i < count_in f
  i_listed = omega (arith, all_items, pair.i_within)

  pub j_listed : j < count_in f
  j_listed = omega (arith, all_items, pair.j_within)

  apart : ¬ (i ≡ j)
  apart = moves_apart P (state_gram state) a i j pair.i_within pair.j_within (candidate_moves P a i j pair.is_candidate)

  in_room : amount P a i j ≤ room P a i j
  in_room = amount_in_room P (state_gram state) a long i j pair.i_within pair.j_within pair.is_candidate

  -- ---- what the parts of the code rely on
  pub step_pair : PairGiven f.parameters (holding_at f a i) (holding_at f a j) (slope P a i j)
  step_pair =
      record {
        used = state.fit.used;
        x_within = state.feasible.within i pair.i_within;
        z_within = state.feasible.within j pair.j_within;
        slope_nonneg = <ℤ_to-≤ℤ (moves_slope P (state_gram state) a i j pair.i_within pair.j_within (candidate_moves P a i j pair.is_candidate));
        slope_size = slope_size state i_listed j_listed;
        curvature_nonneg = curvature_nonneg P (state_gram state) i j pair.i_within pair.j_within;
      }

  -- below the highest ceiling the one multiplier can fall, and the other rise, by the amount
  pub step_falls : Ranges f.parameters → amount P a i j ≤ fall (P.label i) (at a i) ceiling_most
  step_falls ranges = omega (arith, in_room, fall_higher (P.label i) (at a i) (ceiling_range f.parameters ranges (P.label i)).1)

  pub step_rises : Ranges f.parameters → amount P a i j ≤ rise (P.label j) (at a j) ceiling_most
  step_rises ranges = omega (arith, in_room, rise_higher (P.label j) (at a j) (ceiling_range f.parameters ranges (P.label j)).1)

  pub step_updatable : Ranges f.parameters → Updatable f g (amount P a i j)
  step_updatable ranges =
      record {
        used = state.fit.used;
        filled = state.filled;
        sized = λ k l. subst (λ z. nat_abs z ≤ gradient_most) (sym (state.kept k l)) (kept_size state k l);
        small = omega (arith, in_room, room_bound P a i j (state.feasible.within i pair.i_within), (ceiling_range f.parameters ranges (P.label i)).1);
      }

  -- ---- what they give
  pub step_amount : amount_between f.parameters (holding_at f a i) (holding_at f a j) (slope P a i j) ≡ amount P a i j
  step_amount = sym (amount_divided P (state_gram state) a long i j pair.i_within pair.j_within pair.is_candidate)

  pub step_gradient : written (count_in f) (updated f (item_at f i).features (item_at f j).features (amount P a i j) g) g ≡ written (count_in f) (gradient P (at (stepped P a i j))) g
  step_gradient =
      written_cong (count_in f) (updated f (item_at f i).features (item_at f j).features (amount P a i j) g) (gradient P (at (stepped P a i j))) g at_place
    where
      at_place : (k : ℕ) → k < count_in f → updated f (item_at f i).features (item_at f j).features (amount P a i j) g k ≡ gradient P (at (stepped P a i j)) k
      at_place k l =
          (λ t. state.kept k l t +ℤ pos (amount P a i j) *ℤ (P.kernel j k -ℤ P.kernel i k))
          ∙ sym (moved_gradient P a i j pair.i_within pair.j_within apart long (amount P a i j) in_room (state_gram state) k (omega (arith, all_items)))

  -- ---- after the step the state is one again, from which the next step can go on
  stepped_feasible : Feasible P (at (stepped P a i j))
  stepped_feasible = moved_feasible P a i j pair.i_within pair.j_within apart long (amount P a i j) in_room state.feasible

  stepped_fit : Ranges f.parameters → MultipliersFit f (stepped P a i j)
  stepped_fit ranges =
      record {
        used = state.fit.used;
        grid = state.fit.grid;
        long = omega (arith, state.fit.long, moved_length P a i j (amount P a i j));
        small = λ k l. feasible_most f.parameters ranges items (at (stepped P a i j)) stepped_feasible k (omega (arith, all_items));
      }

  -- of the lists b and h that it left
  pub step_state : {b : List ℕ} {h : List ℤ} → Ranges f.parameters → b ≡ stepped P a i j → h ≡ written (count_in f) (gradient P (at (stepped P a i j))) g → State f b h
  step_state ranges e d =
      subst₂ (State f) (sym e) (sym d)
      (record {
        fit = stepped_fit ranges;
        feasible = stepped_feasible;
        filled = omega (arith, state.filled, length_written (count_in f) (gradient P (at (stepped P a i j))) g);
        kept = written_at (count_in f) (gradient P (at (stepped P a i j))) g (pos 0) state.filled;
      })
