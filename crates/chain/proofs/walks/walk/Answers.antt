-- `chain::walks::walk` meets its contract. The loop's invariant: the walk stands after the records met, which have their marks. The measure
-- is how many more it may meet. Assumes nothing.
use mathlib.Core.Path.{◌≡◌, sym, ap, subst, ◌∙◌}
use mathlib.Core.Bool.{Bool, true, false}
use mathlib.Core.List.{List}
use Prim.Native.Nat.{ℕ, ◌+◌, ◌≤◌, ◌<◌}
use native.Mathlib.Omega.{arith}
use lib.ListN.{get_or, set}
use Rattle.training_file.specs.Layout.{records_stored}
use Rattle.training_file.specs.Parameters.{records_most}
use Rattle.chain.proofs.Laws.Answers.{Passed, mark_again, mark_left, mark_new, passed_first, passed_last, link_ended, link_next_lem, link_over}
use Rattle.chain.specs.declared.link.Link.{Link}
use Rattle.chain.specs.declared.link.Link.TheVariants.{Next}
use Rattle.chain.specs.Answers.{link_at}
use Rattle.chain.proofs.walks.walk.Goals as goal

-- a record that has no mark: there are fewer met than are stored, and it joins them
left : (file : List ℕ) (marks : List Bool) (last number met next : ℕ) → Passed file marks last number met → records_stored file ≤ records_most → Next next ≡ link_at file number met
    → get_or marks number false ≡ false → met < records_stored file
left file marks last number met next p most e fresh =
    let found = link_next_lem file marks last number met p next (sym e) in
    mark_left file marks last number met p most found.0 found.1 fresh

joined : (file : List ℕ) (marks : List Bool) (last number met next : ℕ) → Passed file marks last number met → records_stored file ≤ records_most → Next next ≡ link_at file number met
    → get_or marks number false ≡ false → Passed file (set marks number true) number next (met + 1)
joined file marks last number met next p most e fresh =
    let found = link_next_lem file marks last number met p next (sym e) in
    subst (λ (n : ℕ). Passed file (set marks number true) number n (met + 1)) found.2
    (mark_new file marks last number met p most found.0 found.1 fresh)

-- what is found on the walker's file is found on the file itself
on_file : (file seen : List ℕ) (number met : ℕ) (link : Link) → seen ≡ file → link ≡ link_at seen number met → link_at file number met ≡ link
on_file file seen number met link same e = sym (e ∙ ap (λ f. link_at f number met) same)

-- where the walker stands
stands : (file : List ℕ) (marks : List Bool) (last number met at count : ℕ) → number ≡ at → met ≡ count → Passed file marks last at count → Passed file marks last number met
stands file marks last number met at count e f p = subst (λ (n : ℕ). Passed file marks last n met) (sym e) (subst (λ (m : ℕ). Passed file marks last at m) (sym f) p)

pub loop-count-init : goal.loop-count-init
loop-count-init c = record {
  same_file = (λ i. (c.start-walker.ensures.0 i).now);
  passed = stands _ _ _ _ _ _ _ c.start-walker.ensures.1 c.start-walker.ensures.2 (passed_first c.args.file.now);
}

pub loop-count-preserved : goal.loop-count-preserved
loop-count-preserved c =
    let i = c.loop-count.invariant in
    let found = on_file c.args.file.now c.loop-count.walker.file.now c.loop-count.walker.number c.loop-count.walker.met _ i.same_file c.in-Next.ensures in
    record {
      same_file = (λ k. (c.step_to-walker.ensures.0 k).now) ∙ i.same_file;
      passed =
          stands _ _ _ _ _ _ _ c.step_to-walker.ensures.1 c.step_to-walker.ensures.2
          (joined _ _ _ _ _ _ i.passed c.requires.most (sym found) c.if-marks-walker.false);
    }

pub step_to-walker-requires : goal.step_to-walker-requires
step_to-walker-requires c =
    let i = c.loop-count.invariant in
    let found = on_file c.args.file.now c.loop-count.walker.file.now c.loop-count.walker.number c.loop-count.walker.met _ i.same_file c.in-Next.ensures in
    omega (arith, left _ _ _ _ _ _ i.passed c.requires.most (sym found) c.if-marks-walker.false, c.requires.most)

pub loop-count-smaller : goal.loop-count-smaller
loop-count-smaller c =
    let i = c.loop-count.invariant in
    let found = on_file c.args.file.now c.loop-count.walker.file.now c.loop-count.walker.number c.loop-count.walker.met _ i.same_file c.in-Next.ensures in
    omega (arith, left _ _ _ _ _ _ i.passed c.requires.most (sym found) c.if-marks-walker.false, c.step_to-walker.ensures.2)

pub overflow_cast-result : goal.overflow_cast-result
overflow_cast-result c = omega (arith, passed_last _ _ _ _ _ c.loop-count.invariant.passed, c.requires.most)

pub overflow_cast-result-then-marks-walker : goal.overflow_cast-result-then-marks-walker
overflow_cast-result-then-marks-walker c = omega (arith, passed_last _ _ _ _ _ c.loop-count.invariant.passed, c.requires.most)

pub returns-in-Ended : goal.returns-in-Ended
returns-in-Ended c =
    let i = c.loop-count.invariant in
    sym (link_ended _ _ _ _ _ i.passed _ (on_file c.args.file.now c.loop-count.walker.file.now c.loop-count.walker.number c.loop-count.walker.met _ i.same_file c.in-Ended.ensures))

pub returns-in-Over : goal.returns-in-Over
returns-in-Over c =
    let i = c.loop-count.invariant in
    sym (link_over _ _ _ _ _ i.passed (on_file c.args.file.now c.loop-count.walker.file.now c.loop-count.walker.number c.loop-count.walker.met _ i.same_file c.in-Over.ensures))

pub returns-then-marks-walker : goal.returns-then-marks-walker
returns-then-marks-walker c =
    let i = c.loop-count.invariant in
    let found = on_file c.args.file.now c.loop-count.walker.file.now c.loop-count.walker.number c.loop-count.walker.met _ i.same_file c.in-Next.ensures in
    let stored = link_next_lem _ _ _ _ _ i.passed _ found in
    sym (mark_again _ _ _ _ _ i.passed c.requires.most stored.0 stored.1 c.if-marks-walker.true)
