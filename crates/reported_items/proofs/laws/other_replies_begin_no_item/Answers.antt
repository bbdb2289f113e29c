use Rattle.reported_items.proofs.OtherHeads.{others_read}
use Rattle.reported_items.proofs.laws.other_replies_begin_no_item.Goals as goal

pub returns : goal.returns
returns c = λ line text reply is other e plain. others_read line text reply is other e plain
