mod GrantSteps
mod KnownLaws
mod SchoolOrder
