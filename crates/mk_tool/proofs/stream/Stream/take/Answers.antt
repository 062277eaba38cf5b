use Rattle.std.proofs.Common.{◌++◌}
use Rattle.mk_tool.proofs.StreamLaws.{piece_read, on_ok_map}
use Rattle.mk_tool.proofs.stream.Stream.take.Goals as goal

pub judge_rounds-requires : goal.judge_rounds-requires
judge_rounds-requires c =
    let text = c.requires.0 in
    let piece = c.args.piece.now in
    (text ++ piece, c.requires.1.rounds, piece_read c.a_piece_follows_the_text.ensures c.the_head_stays.ensures c.args.self.now.reader c.feed.new.self c.args.self.now.judge text piece c.in_ok-feed.ensures.0 c.requires.1)

pub returns : goal.returns
returns c =
    on_ok_map c.judge_rounds.result
    (λ all text h.
    all (text ++ c.args.piece.now) h.rounds
    (piece_read c.a_piece_follows_the_text.ensures c.the_head_stays.ensures c.args.self.now.reader c.feed.new.self c.args.self.now.judge text c.args.piece.now c.in_ok-feed.ensures.0 h))
    c.judge_rounds.ensures
