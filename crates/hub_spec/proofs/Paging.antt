-- Lists, pages and links of a small district.
use Rattle.std.proofs.Common.{◌≡◌, ℕ, List, [], ◌∷◌, false, Option, None, Some, option_map, refl, map, codes}
use Rattle.std.specs.Fmt.{digits}
use Rattle.form_urlencoded.specs.Form.{byte_serialize}
use Rattle.percent_encoding.specs.Percent.{percent_encode_byte}
use Rattle.hub_spec.specs.examples.Lake.{lake}
use Rattle.filter_grammar.specs.rows.Filters.{comparison_passes, occurs_in}
use Rattle.hub_spec.specs.views.Links.{links_of, path_text, target}
use Rattle.rest_paths.specs.Paths.{PathParts as Path}
use Rattle.hub_spec.specs.views.Lists.{belongs, list_of, object_of}
use Rattle.filter_grammar.specs.rows.Orders.{arranged}
use Rattle.hub_spec.specs.views.Pages.{page_of}
use Rattle.hub_spec.specs.declared.views.page.Page.{Page}
use Rattle.hub_spec.specs.views.Rules.{rule_of}
use Rattle.hub_spec.specs.views.Seen.{seen, sees_row, sees_org, is_at_school, sees_user, sees_course, sees_class_of}
use Rattle.filter_grammar.specs.Subjects.{subject_of}
use Rattle.filter_grammar.specs.declared.query.Order.TheVariants.{Desc}
use Rattle.filter_grammar.specs.declared.filter.Joint.TheVariants.{And}
use Rattle.filter_grammar.specs.declared.filter.Predicate.TheVariants.{Equal, Contains}
use Rattle.filter_grammar.specs.declared.query.Query.{Query}
use Rattle.rest_paths.specs.declared.route.Collection.TheVariants.{Of}
use Rattle.rest_paths.specs.declared.route.Route.{Route}
use Rattle.rest_paths.specs.declared.route.Route.TheVariants as route
use Rattle.grant_scopes.specs.declared.schools.Schools.TheVariants.{Listed}
use Rattle.roster_types.specs.Keys.{key_cmp}
use Rattle.roster_types.specs.Records.{Record}
use Rattle.roster_values.specs.CellText.{cell_text}
use Rattle.roster_values.specs.declared.kind.Kind.TheVariants.{Orgs, Users, Demographics}
use Rattle.status_info.specs.declared.reply.LinkItem.{LinkItem}

abbrev query : ℕ → ℕ → Query
query limit offset = record { limit = limit; offset = offset; sort = None; order_by = None; filter = None; test = None; fields = None; only = None; version = None; since = None; warnings = record { sort = false; selection = false } }

abbrev path : Route → List (List ℕ) → Path
path r ids = record { route = r; ids = ids }

abbrev ids_of : Option (List Record) → Option (List (List ℕ))
ids_of rows = option_map (map (λ (row : Record). row.id)) rows

abbrev east : List Record
east = seen (Listed (codes "s1" ∷ [])) lake

-- the ids that a path lists for a caller that sees all
abbrev lists : Route → List (List ℕ) → Option (List (List ℕ))
lists r ids = ids_of (list_of lake (path r ids) (query 100 0))

nested : lists route.SchoolStudents (codes "s1" ∷ []) ∷ lists route.SchoolTeachers (codes "s2" ∷ []) ∷ lists route.SchoolTerms (codes "s1" ∷ [])
    ∷ lists route.SchoolClassStudents (codes "s2" ∷ codes "k2" ∷ []) ∷ lists route.ClassTeachers (codes "k2" ∷ []) ∷ lists route.TermClasses (codes "t1" ∷ [])
    ∷ lists route.TermGradingPeriods (codes "t1" ∷ []) ∷ lists route.CourseClasses (codes "alg" ∷ []) ∷ lists route.StudentClasses (codes "u1" ∷ [])
    ∷ lists route.UserClasses (codes "u3" ∷ []) ∷ lists route.ClassLineItems (codes "k1" ∷ []) ∷ lists route.ClassResults (codes "k1" ∷ [])
    ∷ lists route.ClassLineItemResults (codes "k1" ∷ codes "li1" ∷ []) ∷ lists route.ClassStudentResults (codes "k1" ∷ codes "u1" ∷ []) ∷ []
    ≡ Some (codes "u1" ∷ codes "u2" ∷ []) ∷ Some (codes "u3" ∷ []) ∷ Some (codes "t1" ∷ [])
    ∷ Some (codes "u2" ∷ []) ∷ Some (codes "u3" ∷ []) ∷ Some (codes "k1" ∷ codes "k2" ∷ [])
    ∷ Some (codes "g1" ∷ []) ∷ Some (codes "k1" ∷ codes "k2" ∷ []) ∷ Some (codes "k1" ∷ [])
    ∷ Some (codes "k2" ∷ []) ∷ Some (codes "li1" ∷ []) ∷ Some (codes "r1" ∷ [])
    ∷ Some (codes "r1" ∷ []) ∷ Some (codes "r1" ∷ []) ∷ []
unfolding list_of belongs rule_of arranged key_cmp
nested = refl

-- a class of another school: an empty list. A user who is no teacher, an object that isn't there: none
edges : lists route.SchoolClassEnrollments (codes "s1" ∷ codes "k2" ∷ []) ∷ lists route.TeacherClasses (codes "u1" ∷ []) ∷ lists route.ClassStudents (codes "k9" ∷ []) ∷ []
    ≡ Some [] ∷ None ∷ None ∷ []
unfolding list_of belongs rule_of arranged key_cmp
edges = refl

-- what a caller of one school isn't shown: a user and a school that it doesn't see, and a user who isn't there
unseen : object_of east (path (route.One (Of Users)) (codes "u3" ∷ [])) ∷ object_of east (path (route.One (Of Users)) (codes "zzz" ∷ [])) ∷ []
    ≡ None ∷ None ∷ []
unfolding object_of rule_of sees_row sees_org is_at_school sees_user sees_course sees_class_of key_cmp
unseen = refl

unseen_school : ids_of (list_of east (path route.SchoolClasses (codes "s2" ∷ [])) (query 100 0)) ≡ None
unfolding list_of belongs rule_of arranged sees_row sees_org is_at_school sees_user sees_course sees_class_of key_cmp
unseen_school = refl

shown : option_map (λ (row : Record). row.id) (object_of east (path (route.One (Of Demographics)) (codes "u1" ∷ []))) ≡ Some (codes "u1")
unfolding object_of rule_of sees_row sees_org is_at_school sees_user sees_course sees_class_of key_cmp
shown = refl

abbrev oaks : ℕ → Query
oaks offset = record {
  limit = 2;
  offset = offset;
  sort = Some (codes "familyName");
  order_by = Some Desc;
  filter = Some (codes "familyName~'o' AND status='active'");
  test = Some (record {
    first = record { field = codes "familyName"; predicate = Contains; value = codes "o" };
    second = Some (And, record { field = codes "status"; predicate = Equal; value = codes "active" });
  });
  fields = None;
  only = None;
  version = None;
  since = None;
  warnings = record { sort = false; selection = false };
}

abbrev page_ids : Option Page → Option (List (List ℕ))
page_ids page = option_map (λ (p : Page). map (λ (row : Record). row.id) p.rows) page

oaks_sorted : page_ids (page_of lake 2 (path (route.All (Of Users)) []) (oaks 0)) ∷ page_ids (page_of lake 2 (path (route.All (Of Users)) []) (oaks 2)) ∷ []
    ≡ Some (codes "u1" ∷ codes "u2" ∷ []) ∷ Some (codes "u4" ∷ codes "u3" ∷ []) ∷ []
unfolding list_of belongs rule_of arranged comparison_passes occurs_in subject_of cell_text key_cmp
oaks_sorted = refl

abbrev targets : List LinkItem → List (List ℕ)
targets links = map (λ (l : LinkItem). l.target) links

next_oaks : targets (links_of (path (route.All (Of Users)) []) (oaks 0) 2 4)
    ≡ codes "/ims/oneroster/v1p1/users?limit=2&offset=2&sort=familyName&orderBy=desc&filter=familyName%7E%27o%27+AND+status%3D%27active%27&hubVersion=2"
    ∷ codes "/ims/oneroster/v1p1/users?limit=2&offset=0&sort=familyName&orderBy=desc&filter=familyName%7E%27o%27+AND+status%3D%27active%27&hubVersion=2"
    ∷ codes "/ims/oneroster/v1p1/users?limit=2&offset=2&sort=familyName&orderBy=desc&filter=familyName%7E%27o%27+AND+status%3D%27active%27&hubVersion=2" ∷ []
unfolding target path_text rule_of byte_serialize percent_encode_byte digits
next_oaks = refl

links_250 : targets (links_of (path (route.All (Of Users)) []) (query 100 100) 3 250)
    ≡ codes "/ims/oneroster/v1p1/users?limit=100&offset=200&hubVersion=3" ∷ codes "/ims/oneroster/v1p1/users?limit=100&offset=0&hubVersion=3"
    ∷ codes "/ims/oneroster/v1p1/users?limit=100&offset=0&hubVersion=3" ∷ codes "/ims/oneroster/v1p1/users?limit=100&offset=200&hubVersion=3" ∷ []
unfolding target path_text rule_of digits
links_250 = refl

-- an offset at the end: no row, and the page in front of it
beyond : targets (links_of (path (route.All (Of Orgs)) []) (query 100 2) 2 2)
    ≡ codes "/ims/oneroster/v1p1/orgs?limit=100&offset=0&hubVersion=2" ∷ codes "/ims/oneroster/v1p1/orgs?limit=100&offset=0&hubVersion=2"
    ∷ codes "/ims/oneroster/v1p1/orgs?limit=100&offset=0&hubVersion=2" ∷ []
unfolding target path_text rule_of digits
beyond = refl

-- an id is encoded in the path of a link
encoded : path_text (path route.SchoolClasses (codes "a/b c" ∷ [])) ≡ codes "/ims/oneroster/v1p1/schools/a%2Fb%20c/classes"
unfolding path_text rule_of percent_encode_byte
encoded = refl
