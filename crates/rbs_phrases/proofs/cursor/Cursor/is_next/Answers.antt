use Rattle.rbs_phrases.proofs.AheadRead.{mark_ahead, ahead_of}
use Rattle.rbs_phrases.proofs.cursor.Cursor.is_next.Goals as goal

pub returns : goal.returns
returns c =
    let at = c.self.inside in
    rw (← c.self.view_is) (λ t. mark_ahead c.args.mark at.ahead at.terminals c.self.invariant (c.is_ahead.ensures.0 t), λ h. c.is_ahead.ensures.1 (ahead_of c.args.mark at.ahead at.terminals c.self.invariant h))
