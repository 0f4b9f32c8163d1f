-- `certifying::multipliers::within_ceilings` meets its contract. Assumes nothing.
use Rattle.std.proofs.Common.{◌≡◌, ℕ, zero, suc, ◌+◌, Bool, ◌&&◌, leb, refl, sym, ap, ◌∙◌, add-zero, arith, rules, tests}
use Rattle.std.specs.List.{list_all, range_with_len}
use Rattle.std.proofs.Math.Bool.{and_assoc, and-true}
use Rattle.std.proofs.lemmas.Iterator.{YieldsList-from_range}
use Rattle.std.proofs.lemmas.Iterator.Search.{all_from_yields_List}
use Rattle.integers.specs.Places.{all}
use Rattle.dual_problem.specs.Problem.{at}
use Rattle.dual_problem.specs.Given.{count_in, problem_in}
use Rattle.certifying.proofs.multipliers.within_ceilings.Goals as goal

-- the first place apart from the others
first_apart : (p : ℕ → Bool) (n : ℕ) → p 0 && all n (λ i. p (suc i)) ≡ all n p && p n
unfolding all
first_apart p zero = and-true (p 0)
first_apart p (suc n) = sym (and_assoc (p 0) (all n (λ i. p (suc i))) (p (suc n))) ∙ ap (λ t. t && p (suc n)) (first_apart p n)

-- a test of each number of a range is one of each place below its length
list_all-range : (p q : ℕ → Bool) (a n : ℕ) → ((i : ℕ) → p (a + i) ≡ q i) → list_all p (range_with_len a n) ≡ all n q
unfolding all
list_all-range p q a zero h = refl
list_all-range p q a (suc n) h =
    (λ k. (ap p (sym (add-zero a)) ∙ h 0) k && list_all-range p (λ i. q (suc i)) (a + 1) n (λ i. ap p (omega arith) ∙ h (suc i)) k)
    ∙ first_apart q n

pub returns : goal.returns
returns c =
    let P = problem_in c.args.problem.now in
    let a = at c.args.multipliers.now in
    let p : ℕ → Bool = λ i. leb (a i) (P.ceiling i) in
    let n = count_in c.args.problem.now in
    all_from_yields_List p _ _ _ c.all.ensures.ran (YieldsList-from_range 0 n n (cc) (omega arith)) (λ x b q k. search (rules, tests))
    ∙ list_all-range p p 0 n (λ i. ap p (omega arith))
