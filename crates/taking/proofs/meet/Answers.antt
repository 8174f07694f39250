-- `meet` meets its contract: a name and another token by a law each; a fault and the script's end do not occur in a group that goes on.
-- Assumes nothing.
use Rattle.taking.proofs.Meeting.{ahead_inside, meets_token, meet_executable, meet_literal, meet_other}
use Rattle.taking.proofs.meet.Goals as goal

pub skip-start-requires : goal.skip-start-requires
skip-start-requires c = ahead_inside c.requires.1

pub unwrap-read-requires : goal.unwrap-read-requires
unwrap-read-requires c = meets_token _ _ _ c.skip-start.ensures.value c.requires.1 _ c.token_at.ensures

pub returns-in-ExecutableName : goal.returns-in-ExecutableName
returns-in-ExecutableName c = meet_executable _ _ _ c.skip-start.ensures.value c.requires.1 c.token_at.ensures c.unwrap-read.ensures c.in-ExecutableName.is

pub returns-in-LiteralName : goal.returns-in-LiteralName
returns-in-LiteralName c = meet_literal _ _ _ c.skip-start.ensures.value c.requires.1 c.token_at.ensures c.unwrap-read.ensures c.in-LiteralName.is

pub returns-in_default : goal.returns-in_default
returns-in_default c = meet_other _ _ _ c.skip-start.ensures.value c.requires.1 c.token_at.ensures c.unwrap-read.ensures c.in_default.not-ExecutableName c.in_default.not-LiteralName
