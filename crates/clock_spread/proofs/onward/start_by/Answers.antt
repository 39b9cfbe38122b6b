use Rattle.std.proofs.Common.{rules, refl, ◌^◌, IsNone}
use Rattle.clock_spread.specs.private.MovedStarts.{moved_start}
use Rattle.clock_spread.proofs.Limits.{not_past, past, moved_den_pos, moved_at, moved_sign, moved_past}
use Rattle.clock_spread.proofs.onward.start_by.Goals as goal

pub returns-in_err-start-clause-none : goal.returns-in_err-start-clause-none
returns-in_err-start-clause-none c =
    let gone : IsNone c.from_residual.result = search rules in
    let over = moved_past c.args.grid.start c.args.grid.period c.args.grid.negative c.args.back c.args.k c.args.r (c.in_err-start.ensures.none.0 refl) in
    (λ _. over, λ _. gone)

pub returns-then-is_fine-clause-value : goal.returns-then-is_fine-clause-value
returns-then-is_fine-clause-value c =
    moved_at c.args.grid.start c.args.grid.period c.in_ok-start.start.start c.args.grid.negative c.args.back c.in_ok-start.start.negative c.args.k c.args.r c.in_ok-start.ensures.size c.in_ok-start.ensures.sign

pub returns-then-is_fine-clause-fine : goal.returns-then-is_fine-clause-fine
returns-then-is_fine-clause-fine c = record {
  parts = c.if-is_fine.ensures.0 refl;
  sign = moved_sign c.args.grid.start c.args.grid.period c.in_ok-start.start.start c.args.grid.negative c.args.back c.in_ok-start.start.negative c.args.k c.args.r c.in_ok-start.ensures.size c.in_ok-start.ensures.sign;
}

pub returns-then-is_fine-clause-none : goal.returns-then-is_fine-clause-none
returns-then-is_fine-clause-none c =
    let at = moved_at c.args.grid.start c.args.grid.period c.in_ok-start.start.start c.args.grid.negative c.args.back c.in_ok-start.start.negative c.args.k c.args.r c.in_ok-start.ensures.size c.in_ok-start.ensures.sign in (
      λ e. absurd cc,
      λ h. absurd (not_past (2 ^ 40) c.in_ok-start.start.negative c.in_ok-start.start.start
          (moved_start c.args.grid.start c.args.grid.negative c.args.grid.period c.args.k c.args.r c.args.back)
          (moved_den_pos c.args.grid.start c.args.grid.period c.args.grid.negative c.args.back c.args.k c.args.r c.requires.given) at (c.if-is_fine.ensures.0 refl) h),
    )

pub returns-else-is_fine-clause-none : goal.returns-else-is_fine-clause-none
returns-else-is_fine-clause-none c =
    let at = moved_at c.args.grid.start c.args.grid.period c.in_ok-start.start.start c.args.grid.negative c.args.back c.in_ok-start.start.negative c.args.k c.args.r c.in_ok-start.ensures.size c.in_ok-start.ensures.sign in (
      λ _. past (2 ^ 40) c.in_ok-start.start.negative c.in_ok-start.start.start
          (moved_start c.args.grid.start c.args.grid.negative c.args.grid.period c.args.k c.args.r c.args.back) at (λ below. absurd (search rules)),
      λ _. refl,
    )
