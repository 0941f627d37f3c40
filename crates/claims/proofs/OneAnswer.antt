-- Each contract gives the answer and the lent memory as definitions of the input.
use mathlib.Core.Path.{◌≡◌, sym, ◌∙◌}
use Rattle.claims.specs.OneAnswer.{OneAnswer}

both : {A : Type 0} {x y z : A} → x ≡ z → y ≡ z → x ≡ y
both e f = e ∙ sym f

pub one_answer : OneAnswer
one_answer = record {
  run = λ κs a r r' s s' p q. (both p.0 q.0, both p.1 q.1);
  counted = λ κs a r r' s s' p q. (both p.0 q.0, both p.1 q.1);
  translate = λ κs a r r' s s' p q. (both p.0 q.0, both p.1 q.1);
  translate_to = λ κs a r r' s s' p q. (both p.0 q.0, both p.1 q.1);
  first_step = λ κs a r r' s s' p q. both p q;
  replay = λ κs a r r' s s' p q. (both p.0 q.0, both p.1.0 q.1.0, both p.1.1 q.1.1);
  search = λ κs a r r' s s' p q. (both p.0 q.0, both p.1 q.1);
  check_list = λ κs a r r' s s' p q. both p q;
  draw = λ κs a r r' s s' p q. (both p.0 q.0, both p.1 q.1);
  undraw = λ κs a r r' s s' p q. (both p.0 q.0, both p.1 q.1);
  to_second = λ κs a r r' s s' p q. (both p.0 q.0, both p.1 q.1);
  to_first = λ κs a r r' s s' p q. (both p.0 q.0, both p.1 q.1);
  c_run = λ κs a r r' s s' p q. (both p.0 q.0, both p.1 q.1);
  c_receipts = λ κs a r r' s s' p q. (both p.0 q.0, both p.1 q.1);
  c_translate = λ κs a r r' s s' p q. (both p.0 q.0, both p.1 q.1);
  c_translate_to = λ κs a r r' s s' p q. (both p.0 q.0, both p.1 q.1);
  c_first_step = λ κs a r r' s s' p q. both p q;
  c_replay = λ κs a r r' s s' p q. (both p.0 q.0, both p.1.0 q.1.0, both p.1.1 q.1.1);
  c_search = λ κs a r r' s s' p q. (both p.0 q.0, both p.1.0 q.1.0, both p.1.1 q.1.1);
  c_check_list = λ κs a r r' s s' p q. both p q;
  c_draw = λ κs a r r' s s' p q. (both p.0 q.0, both p.1 q.1);
  c_undraw = λ κs a r r' s s' p q. (both p.0 q.0, both p.1 q.1);
  c_to_second = λ κs a r r' s s' p q. (both p.0 q.0, both p.1 q.1);
  c_to_first = λ κs a r r' s s' p q. (both p.0 q.0, both p.1 q.1);
}
