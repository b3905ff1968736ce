use Rattle.std.proofs.lemmas.Result.{on_ok_weaker}
use Rattle.hlc_log_commands.proofs.DrawnLogs.{drawn_of}
use Rattle.hlc_log_commands.proofs.drawn_log.draw_opened.Goals as goal

pub returns-clause-done : goal.returns-clause-done
returns-clause-done g c =
    let pictured = c.in_ok-pictured.ensures in
    on_ok_weaker c.draw_part.result
    (λ picture.
    record {
      drawn = c.in_ok-pictured.pictured;
      is_drawn =
          drawn_of c.args.log.now c.put_in_row_order.new.log c.in_ok-pictured.pictured c.in_ok-put_in_row_order.ensures.same pictured.ordered
          c.in_ok-put_in_row_order.ensures.by_stamp pictured.log pictured.files pictured.nodes pictured.labels pictured.judged;
      picture = picture;
    }) c.draw_part.ensures.done

pub returns-clause-without : goal.returns-clause-without
returns-clause-without g c =
    let pictured = c.in_ok-pictured.ensures in
    λ is.
    let lacks = c.draw_part.ensures.without is in
    record {
      drawn = c.in_ok-pictured.pictured;
      is_drawn =
          drawn_of c.args.log.now c.put_in_row_order.new.log c.in_ok-pictured.pictured c.in_ok-put_in_row_order.ensures.same pictured.ordered
          c.in_ok-put_in_row_order.ensures.by_stamp pictured.log pictured.files pictured.nodes pictured.labels pictured.judged;
      absent = lacks.0;
      nothing = lacks.1;
    }
