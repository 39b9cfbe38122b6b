use Rattle.eq_orient.proofs.Unread.{unread}
use Rattle.eq_orient.proofs.law.unread_law.Goals as goal

pub returns : goal.returns
returns c = unread
