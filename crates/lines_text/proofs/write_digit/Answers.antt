use Rattle.std.proofs.Common.{arith}
use Rattle.lines_text.proofs.Digits.{no_digit, digit_within, one_digit}
use Rattle.lines_text.proofs.write_digit.Goals as goal

pub returns-then-high-eq0 : goal.returns-then-high-eq0
returns-then-high-eq0 c = no_digit _ _ _ _ c.requires.0 c.requires.1 (omega arith) (omega arith)

pub bounds-out-at : goal.bounds-out-at
bounds-out-at c = digit_within c.args.number _ _ _ c.requires.0 c.requires.1 (λ d e. grind arith)

pub returns : goal.returns
returns c = one_digit _ _ _ _ c.requires.0 c.requires.1 (λ d e. grind arith)
