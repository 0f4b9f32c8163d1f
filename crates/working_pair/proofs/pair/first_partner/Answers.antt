-- `working_pair::pair::first_partner` meets its contract: what `find` says of the places is that the first partner was found. Assumes nothing.
use Rattle.std.proofs.Common.{◌≡◌, ◌<◌, ◌≤◌, ℕ, Bool, true, false, Option, None, Some, MatchOption, sym, ◌∙◌, ap, arith, rules}
use Rattle.std.proofs.lemmas.Iterator.{first_from_Range}
use borrow.Author.Tests.{tests}
use Rattle.integers.specs.Extremum.{first}
use Rattle.integers.proofs.Laws.Extremum.First.{first_absent, first_complete}
use Rattle.dual_problem.specs.Given.{problem_in}
use Rattle.working_pair.specs.Pair.{partner_of, partners}
use Rattle.working_pair.proofs.pair.first_partner.Goals as goal

-- the first of the places below n that passes, or none
found_is : (p : ℕ → Bool) (n : ℕ) (r : Option ℕ)
    → MatchOption r ((k : ℕ) → 0 ≤ k → k < n → p k ≡ false) (λ i. (0 ≤ i) × (i < n) × (p i ≡ true) × ((k : ℕ) → 0 ≤ k → k < i → p k ≡ false))
    → r ≡ partner_of (first n p)
found_is p n None h = sym (ap partner_of (first_absent p (λ k l. h k (omega arith) l)))
found_is p n (Some j) h =
    sym (ap partner_of (first_complete p (record { within = h.1; passes = h.2; before = λ k l. h.3 k (omega arith) l })))

pub returns : goal.returns
returns c =
    let row = c.new-row.result in
    let p : ℕ → Bool = partners (problem_in row.standing.problem.now) row.standing.multipliers.now row.place in
    let counted = c.count.ensures ∙ c.args.standing.problem.now.listed.counted in
    found_is p c.count.result c.find.result
    (first_from_Range _ _ _ c.find.result (λ j. p j ≡ true) (λ j. p j ≡ false) c.find.ensures.ran (λ x q k. search (rules, tests)) (λ x q k. search (rules, tests)))
    ∙ (λ d. partner_of (first (counted d) (partners (problem_in (c.new-row.ensures.standing d).problem.now) (c.new-row.ensures.standing d).multipliers.now (c.new-row.ensures.place d))))
