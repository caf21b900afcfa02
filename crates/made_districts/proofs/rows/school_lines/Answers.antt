use Rattle.made_districts.proofs.rows.school_lines.Goals as goal

pub returns-in-Users : goal.returns-in-Users
returns-in-Users c = rw c.in-Users.is (rw (c.as_str-in-Users.ensures.value, c.in_ok-id.ensures) at c.users.ensures)

pub returns : goal.returns
returns c = rw c.in-Enrollments.is (rw (c.as_str-in-Enrollments.ensures.value, c.in_ok-id.ensures) at c.enrollments.ensures)
