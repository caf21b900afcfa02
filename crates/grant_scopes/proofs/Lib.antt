mod OpenSteps
mod WordSteps
