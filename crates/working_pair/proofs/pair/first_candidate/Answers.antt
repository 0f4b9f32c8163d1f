-- `working_pair::pair::first_candidate` meets its contract. The loop's invariant: no pair with one of the first i places is a candidate. Assumes
-- nothing.
use Rattle.std.proofs.Common.{◌≡◌, ◌<◌, ℕ, Bool, true, false, ◌&&◌, List, Option, None, Some, refl, sym, ◌∙◌, ap, arith, rules}
use Rattle.std.proofs.Math.Option as place
use borrow.Author.Count.{below_more}
use Rattle.integers.proofs.Laws.Extremum.First.{first_none, first_sound}
use Rattle.dual_problem.specs.Problem.{Problem, up, at}
use Rattle.dual_problem.specs.Given.{problem_in}
use Rattle.thresholds.specs.declared.extremes.Sets.{Sets}
use Rattle.thresholds.specs.Extremes.{sets_of}
use Rattle.working_pair.specs.Step.{candidate, first_candidate, moves}
use Rattle.working_pair.specs.Pair.{first_partner, pair_of, partner_of, partners}
use Rattle.working_pair.proofs.Laws.Step.WorkingPair.{first_candidate_complete, first_candidate_absent}
use Rattle.working_pair.proofs.pair.first_candidate.Invariants.{Alone}
use Rattle.working_pair.proofs.pair.first_candidate.Goals as goal
use Rattle.working_pair.proofs.pair.first_candidate.Goals.{else-sets_at-via-else-sets_at, else-sets_at-via-then-sets_at+in-None-1}

-- what an answer of `first_partner` says of what was found
partner_some : (o : place.Option ℕ) {j : ℕ} → partner_of o ≡ Some j → o ≡ place.some j
partner_some place.none e = cc
partner_some (place.some k) e = cc

partner_none : (o : place.Option ℕ) → partner_of o ≡ None → o ≡ place.none
partner_none place.none e = refl
partner_none (place.some k) e = cc

-- what was asked of the place i
module _ (P : Problem) (a : List ℕ) (i : ℕ) {sets : Sets} (sets_is : sets ≡ sets_of P (at a) i) where
  -- in the low set the candidates with i are its partners, and outside it there are none
  candidate_is : {t : Bool} → sets.low ≡ t → (j : ℕ) → candidate P a i j ≡ t && up P (at a) j && moves P a i j
  candidate_is e j = λ k. (sym (λ i. (sets_is i).low) ∙ e) k && up P (at a) j && moves P a i j

  outside : sets.low ≡ false → Alone P a i
  outside e j l = candidate_is e j

  module _ (member : sets.low ≡ true) {r : Option ℕ} (answer : r ≡ partner_of (first_partner P a i)) where
    unpartnered : r ≡ None → Alone P a i
    unpartnered e j l = candidate_is member j ∙ first_none (partners P a i) (partner_none (first_partner P a i) (sym answer ∙ e)) j l

    partnered : {j : ℕ} → r ≡ Some j → i < P.count → ((k : ℕ) → k < i → Alone P a k) → first_candidate P a ≡ place.some (i, j)
    partnered {j} e within alone =
        let f = first_sound (partners P a i) (partner_some (first_partner P a i) (sym answer ∙ e)) in
        first_candidate_complete P a
        (record {
          i_within = within;
          j_within = f.within;
          is_candidate = candidate_is member j ∙ f.passes;
          earlier_i = λ k l m n. alone k m l n;
          earlier_j = λ l m. candidate_is member l ∙ f.before l m;
        })

pub loop-i-preserved : goal.loop-i-preserved
loop-i-preserved c =
    let P = problem_in c.args.standing.problem.now in
    let a = c.args.standing.multipliers.now in
    let i = c.loop-i.i in
    below_more (Alone P a) i c.loop-i.invariant
    (elim c.else-sets_at.branch [
      | else-sets_at-via-else-sets_at w ↦ outside P a i c.sets_at.ensures w.if-sets_at.false
      | else-sets_at-via-then-sets_at+in-None-1 w ↦ unpartnered P a i c.sets_at.ensures w.if-sets_at.true w.first_partner.ensures (search rules)
    ])

pub returns : goal.returns
returns c =
    sym (ap pair_of (first_candidate_absent _ _ (λ k l m n. c.loop-i.invariant k (omega (arith, c.args.standing.problem.now.listed.counted)) l n)))

pub returns-in-loop-i : goal.returns-in-loop-i
returns-in-loop-i c =
    sym
    (ap pair_of
    (partnered (problem_in c.args.standing.problem.now) c.args.standing.multipliers.now c.loop-i.i c.sets_at.ensures c.if-sets_at.true c.first_partner.ensures c.in-Some.is
    (omega (arith, c.args.standing.problem.now.listed.counted)) c.loop-i.invariant))
